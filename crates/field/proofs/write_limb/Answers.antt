use mathlib.Core.Path.{◌≡◌, refl, sym, ap, ◌∙◌}
use mathlib.Core.List.{append-nil}
use Prim.Native.Nat.{ℕ, ◌+◌}
use native.Mathlib.Nat.{add-zero}
use native.Mathlib.Omega.{arith}
use lib.ListN.{take, set, length-set}
use Rattle.spec.specs.Bytes.{tabulate}
use Rattle.laws.proofs.Prefixes.{take-stored}
use Rattle.field.proofs.write_limb.Invariants.{byte_at}
use Rattle.field.proofs.write_limb.Goals as goal

pub loop-b-init : goal.loop-b-init
unfolding tabulate
loop-b-init c =
    let out = c.args.out.now in
    (refl, ap (λ (n : ℕ). take n out) (add-zero c.args.at) ∙ sym (append-nil (take c.args.at out)))

pub loop-b-preserved : goal.loop-b-preserved
loop-b-preserved c =
    let g = c.args in
    let l = c.loop-b in
    let f = byte_at g.x g.y.now g.at in
    let e : g.at + (l.b + 1) ≡ g.at + l.b + 1 = omega arith in (
      simp length-set l.invariant.0,
      ap (λ (n : ℕ). take n (set l.out (g.at + l.b) (f l.b))) e
          ∙ take-stored l.out (g.at + l.b) (f l.b) (take g.at g.out.now) l.b f (omega arith) l.invariant.1 refl,
    )

pub returns : goal.returns
returns c = rw (let z : c.loop-b.b ≡ 8 = omega arith in z) at c.loop-b.invariant.1
