-- The count is the planned one, and below the number of leaves.
use Prim.Native.Nat.{ℕ, ◌/◌}
use mathlib.Core.Path.{◌≡◌, ap}
use borrow.Author.Rules.{rules}
use Rattle.spec.specs.declared.Shape.{Shape}
use Rattle.spec.specs.Shapes.{level, challenge_bytes}
use Rattle.enumeration.proofs.Counts.{count-lt}
use Rattle.enumeration.proofs.count_of.Goals as goal

width : (s : Shape) → level s ≡ 128 → challenge_bytes s ≡ 16
unfolding challenge_bytes
width s e = ap (λ (n : ℕ). n / 8) e

pub revealed_nodes-requires : goal.revealed_nodes-requires
revealed_nodes-requires c = (rw (width c.args.s c.requires.1) (search rules))

pub returns : goal.returns
returns c =
    let r = c.revealed_nodes in
    (r.ensures.0, rw r.ensures.0 (count-lt c.args.s _ c.requires.0))
