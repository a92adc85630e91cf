-- After i turns the first i bytes are digits of x, and what is left of x is its part above them.
use Prim.Native.Nat.{ℕ, ◌+◌, ◌-◌, ◌*◌, ◌/◌, ◌%◌, ◌^◌, ◌≤◌}
use mathlib.Core.Path.{◌≡◌, ◌∙◌}
use Rattle.spec.specs.Bytes.{digits}
use Rattle.laws.specs.Front.{Front}
use Rattle.enumeration.proofs.challenge_at.Given as goal

abbrev pub byte : ℕ → ℕ → ℕ
byte x i = x / 2 ^ (8 * i) % 2 ^ 8

abbrev pub invariant-loop-byte : goal.invariant-loop-byte
invariant-loop-byte l = (l.rest ≡ l.x / 2 ^ (8 * l.byte-index)) × Front (byte l.x) 16 l.byte-index l.byte-items
