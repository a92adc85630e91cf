-- The first j columns have the string added, the others are as they were.
use mathlib.Core.Path.{◌≡◌}
use mathlib.Core.List.{List}
use Prim.Native.Nat.{ℕ, ◌+◌, ◌*◌, ◌-◌, ◌≤◌}
use lib.ListN.{get_or}
use Rattle.spec.specs.Bytes.{bit}
use Rattle.columns.specs.Columns.{Done}
use Rattle.columns.proofs.add_bytes.Given as goal

abbrev pub added : ℕ → List ℕ → ℕ → ℕ → ℕ
added number bytes j p = bit j number * get_or bytes p 0

abbrev pub invariant-loop-j : goal.invariant-loop-j
invariant-loop-j l = (l.j ≤ l.k) × Done l.b l.j (added l.number l.bytes) l.initial.cols l.cols

abbrev pub decreases-loop-j : goal.decreases-loop-j
decreases-loop-j l = l.k - l.j
