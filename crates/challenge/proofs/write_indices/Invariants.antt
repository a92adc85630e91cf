-- The first i numbers are the hidden indices of the first i vectors.
use lib.ListN.{length}
use Rattle.laws.specs.Front.{Front}
use Rattle.spec.specs.Shapes.{hidden_index}
use Rattle.challenge.proofs.write_indices.Given as goal

abbrev pub invariant-loop-i : goal.invariant-loop-i
invariant-loop-i l = Front (hidden_index l.s l.ch) (length l.initial.out) l.i l.out
