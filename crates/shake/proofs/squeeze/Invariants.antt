-- `squeeze` meets its contract. The loop's invariant: the first `at` bytes are squeezed, and where there are more to come the state is that of the block
-- that begins there. The measure is the number of bytes left.
use mathlib.Core.Path.{◌≡◌}
use Prim.Native.Nat.{ℕ, ◌-◌, ◌*◌, ◌<◌}
use lib.ListN.{length}
use Rattle.spec.specs.Sponge.{permuted}
use Rattle.shake.proofs.Squeezing.{Squeezed}
use Rattle.shake.proofs.squeeze.Given as goal

abbrev pub invariant-loop-at : goal.invariant-loop-at
invariant-loop-at l =
    Squeezed l.rate l.fn.lanes l.initial.out l.out l.at × ((q : ℕ) × (l.state ≡ permuted q l.fn.lanes) × (l.at < length l.initial.out → l.at ≡ l.rate * q))

abbrev pub decreases-loop-at : goal.decreases-loop-at
decreases-loop-at l = length l.initial.out - l.at
