-- The first i bytes of the string are xored in.
use mathlib.Core.Path.{◌≡◌}
use Prim.Native.Nat.{ℕ, ◌+◌, ◌*◌, ◌-◌, ◌≤◌}
use lib.ListN.{get_or}
use Rattle.columns.specs.Columns.{Xored}
use Rattle.columns.proofs.xor_bytes.Given as goal

abbrev pub invariant-loop-i : goal.invariant-loop-i
invariant-loop-i l = (l.i ≤ l.n) × Xored l.at (l.at + l.i) (λ p. l.digit * get_or l.bytes (p - l.at) 0) l.initial.d l.d

abbrev pub decreases-loop-i : goal.decreases-loop-i
decreases-loop-i l = l.n - l.i
