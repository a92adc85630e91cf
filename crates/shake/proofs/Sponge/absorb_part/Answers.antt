-- `Sponge::absorb_part` meets its contract, by the laws of a part that leaves its block open and of one that ends it.
use mathlib.Core.Path.{refl, ap, ◌∙◌}
use Prim.Native.Nat.{◌-◌}
use native.Mathlib.Omega.{arith}
use lib.ListN.{length}
use Rattle.spec.specs.Keccak.{keccak_f}
use Rattle.spec.specs.Sponge.{xor_in}
use Rattle.shake.proofs.Absorbing.{part_open, part_full}
use Rattle.shake.proofs.Sponge.absorb_part.Goals as goal
use Rattle.shake.proofs.Sponge.absorb_part.Goals.{then-end-rate, else-end-rate}

pub returns : goal.returns
returns c =
    let s = c.args.self in
    let part = c.args.part.now in
    let taken = c.xor_block-lanes.ensures ∙ ap (xor_in s.lanes) c.place-block.ensures in
    elim c.if-end-rate.branch [
      | then-end-rate w ↦
          record {
            rate = rw w.result-is refl;
            holds = rw w.result-is (part_open part (168 - s.fill - length part) (λ i. (c.type_inv.part i).fits) w.if-end-rate.true taken);
          }
      | else-end-rate w ↦
          record {
            rate = rw w.result-is w.permute.ensures.0;
            holds = rw (w.result-is, w.permute.ensures.0, w.permute.ensures.2) (part_full part (168 - s.fill - length part) (λ i. (c.type_inv.part i).fits) (omega arith) (w.permute.ensures.1 ∙ ap keccak_f taken));
          }
    ]
