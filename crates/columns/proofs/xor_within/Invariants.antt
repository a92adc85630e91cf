-- The first `at` bytes are xored in; where they are read from, nothing has changed. The measure is the number of bytes left.
use mathlib.Core.Path.{◌≡◌, ◌∙◌}
use mathlib.Core.List.{List}
use Prim.Native.Nat.{ℕ, ◌+◌, ◌-◌, ◌≤◌, ◌<◌}
use lib.ListN.{get_or}
use Rattle.columns.specs.Columns.{Xored}
use Rattle.columns.proofs.xor_within.Given as goal

abbrev pub moved : ℕ → ℕ → List ℕ → ℕ → ℕ
moved from to d p = get_or d (from + (p - to)) 0

abbrev pub invariant-loop-at : goal.invariant-loop-at
invariant-loop-at l = (l.at ≤ l.n) × Xored l.to (l.to + l.at) (moved l.from l.to l.initial.d) l.initial.d l.d

abbrev pub decreases-loop-at : goal.decreases-loop-at
decreases-loop-at l = l.n - l.at
