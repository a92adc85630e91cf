-- `generator::store_whole` meets its contract. The loop's invariant: k bytes of the block are stored. The measure is the number of bytes left.
use Rattle.std.proofs.Common.{◌≡◌, ◌+◌, ◌-◌, ◌≤◌, length}
use Rattle.generator.specs.Stored.{Continued}
use Rattle.generator.proofs.store_whole.Given as goal

abbrev pub invariant-loop-k : goal.invariant-loop-k
invariant-loop-k l = (l.k ≤ 16) × (length l.out ≡ length l.initial.out) × Continued l.block 0 l.p (l.p + l.k) l.initial.out l.out

abbrev pub decreases-loop-k : goal.decreases-loop-k
decreases-loop-k l = 16 - l.k
