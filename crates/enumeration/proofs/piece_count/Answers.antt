-- By the number of the reading.
use mathlib.Core.Path.{refl, ap}
use Prim.Native.Nat.{ℕ, ◌+◌}
use borrow.Author.Tests.{eq-eqb, ne_eqb}
use Rattle.enumeration.specs.Pieces.{piece_count}
use Rattle.enumeration.proofs.piece_count.Goals as goal

pub returns-then-r-ne0 : goal.returns-then-r-ne0
unfolding piece_count
returns-then-r-ne0 c = rw (ne_eqb c.args.r.number 0 c.if-r-ne0.true) refl

pub line_pieces-requires : goal.line_pieces-requires
line_pieces-requires c = c.requires.shape c.if-r-ne0.false

pub returns : goal.returns
unfolding piece_count
returns c =
    rw (eq-eqb c.args.r.number 0 c.if-r-ne0.false) (ap (λ (n : ℕ). n + 1) c.line_pieces.ensures.0)
