-- The front of the block is the rule's, and `copy` fills all of `out` with it.
use mathlib.Core.Path.{◌≡◌, sym, ap, ◌∙◌}
use mathlib.Core.List.{List, append-nil}
use Prim.Native.Nat.{ℕ, ◌≤◌}
use native.Mathlib.Omega.{arith}
use lib.ListN.{length, take}
use lib.Seq.{drop-length}
use Rattle.laws.proofs.Filling.{take-tabulate}
use Rattle.laws.proofs.Lists.{length-tabulate}
use Rattle.spec.specs.Bytes.{tabulate}
use Rattle.spec.specs.Sponge.{state_byte}
use Rattle.shake.proofs.squeeze_part.Goals as goal

-- the front of the block, as many bytes as `out` has
module _ (s block out : List ℕ) (fits : length out ≤ 168) (e : block ≡ tabulate 168 (state_byte s)) where
  front : take (length out) block ≡ tabulate (length out) (state_byte s)
  front = ap (take (length out)) e ∙ take-tabulate (length out) 168 (state_byte s) fits

  front_length : length (take (length out) block) ≡ length out
  front_length = ap length front ∙ length-tabulate (length out) (state_byte s)

pub slice_bounds-copy-end : goal.slice_bounds-copy-end
slice_bounds-copy-end c =
    let block = c.state_bytes-block in
    sym (front_length c.args.lanes block.result c.args.out.now c.requires block.ensures)

pub copy-requires : goal.copy-requires
copy-requires c =
    let block = c.state_bytes-block in
    let n = front_length c.args.lanes block.result c.args.out.now c.requires block.ensures in
    omega arith

pub returns : goal.returns
returns c =
    let block = c.state_bytes-block in
    let out = c.args.out.now in
    let src = take (length out) block.result in
    c.copy.ensures
    ∙ rw (
      front_length c.args.lanes block.result out c.requires block.ensures,
      drop-length out,
      append-nil src,
    )
    (front c.args.lanes block.result out c.requires block.ensures)
