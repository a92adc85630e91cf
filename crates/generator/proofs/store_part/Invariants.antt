-- `generator::store_part` meets its contract. The loop's invariant: k bytes of the block are stored. The measure is the number of bytes left.
use Rattle.std.proofs.Common.{◌≡◌, ◌+◌, ◌-◌, ◌≤◌, length}
use Rattle.generator.specs.Stored.{Continued}
use Rattle.generator.proofs.store_part.Given as goal

abbrev pub invariant-loop-k : goal.invariant-loop-k
invariant-loop-k l = (l.k ≤ l.n) × (length l.out ≡ length l.initial.out) × Continued l.block l.from l.p (l.p + l.k) l.initial.out l.out

abbrev pub decreases-loop-k : goal.decreases-loop-k
decreases-loop-k l = l.n - l.k
