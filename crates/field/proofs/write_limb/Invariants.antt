-- `field::write_limb` meets its contract. The loop's invariant: after the bytes below `at`, which stay, `b` bytes are right.
use mathlib.Core.Path.{◌≡◌}
use mathlib.Core.List.{List, ◌++◌}
use Prim.Native.Nat.{ℕ, ◌+◌, ◌*◌, ◌/◌, ◌%◌, ◌^◌}
use lib.Bits.{bit_xor}
use lib.ListN.{length, get_or, take}
use Rattle.spec.specs.Bytes.{tabulate}
use Rattle.field.proofs.write_limb.Given as goal

abbrev pub byte_at : ℕ → List ℕ → ℕ → ℕ → ℕ
byte_at x y at b = bit_xor (x / 2 ^ (8 * b) % 2 ^ 8) (get_or y (at + b) 0)

abbrev pub invariant-loop-b : goal.invariant-loop-b
invariant-loop-b l = (length l.out ≡ length l.initial.out) × (take (l.at + l.b) l.out ≡ take l.at l.initial.out ++ tabulate l.b (byte_at l.x l.y l.at))
