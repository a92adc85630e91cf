-- `Sponge::absorb` meets its contract. The loop's invariant: the sponge took in the first `at` bytes of the message. Each turn takes in a part that is not
-- empty, since the block has room. The measure is the number of bytes left.
use Prim.Native.Nat.{◌-◌, ◌≤◌}
use lib.ListN.{length, take}
use Rattle.shake.specs.Absorbing.{Absorbs}
use Rattle.shake.proofs.Sponge.absorb.Given as goal

abbrev pub invariant-loop-at : goal.invariant-loop-at
invariant-loop-at l = (l.at ≤ length l.message) × Absorbs l.fn.self (take l.at l.message) l.sponge

abbrev pub decreases-loop-at : goal.decreases-loop-at
decreases-loop-at l = length l.message - l.at
