-- `shake::store_lane` meets its contract. The loop's invariant: the first i bytes are filled by the digits of x.
use mathlib.Core.Path.{◌≡◌}
use Prim.Native.Nat.{ℕ, ◌*◌, ◌/◌, ◌%◌, ◌^◌}
use Rattle.laws.proofs.Filling.{filled}
use Rattle.shake.proofs.store_lane.Given as goal

-- byte k of the lane x
abbrev pub byte : ℕ → ℕ → ℕ
byte x k = x / 2 ^ (8 * k) % 256

abbrev pub invariant-loop-i : goal.invariant-loop-i
invariant-loop-i l = l.out ≡ filled l.i (byte l.x) l.initial.out
