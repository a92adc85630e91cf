-- The last column is cleared, and the loop's invariant is: the entries of the run's numbers below x have their commitments in their places, and their rows added.
-- The measure is the number of entries left.
-- ---- the last column: its start, and its end before the loop
-- ---- the parts lent
use Prim.Native.Nat.{◌-◌, ◌≤◌}
use Rattle.columns.specs.Columns.{Running}
use Rattle.job.specs.Jobs.{entry_commitment}
use Rattle.vector.specs.Entries.{numbered, Written}
use Rattle.vector.proofs.add_half.Given as goal

abbrev pub invariant-loop-x : goal.invariant-loop-x
invariant-loop-x l =
    (l.run.from ≤ l.x) × (l.x ≤ l.run.to) × Written l.w (entry_commitment l.g l.tree l.run.vector) l.run.mask l.run.from l.x l.initial.commitments l.commitments
    × Running l.g.stretch.width l.h l.run.from l.x (numbered l.g l.tree l.run) l.cols

abbrev pub decreases-loop-x : goal.decreases-loop-x
decreases-loop-x l = l.run.to - l.x
