-- The first j columns have the last added where their bit is set, and those behind are as they were.
use mathlib.Core.List.{List}
use Prim.Native.Nat.{ℕ, ◌+◌, ◌*◌}
use lib.ListN.{get_or}
use Rattle.spec.specs.Bytes.{bit}
use Rattle.columns.specs.Columns.{Done}
use Rattle.columns.proofs.add_last.Given as goal

abbrev pub added : ℕ → ℕ → ℕ → List ℕ → ℕ → ℕ → ℕ
added b h number cols j p = bit j number * get_or cols (b * h + p) 0

abbrev pub invariant-loop-j : goal.invariant-loop-j
invariant-loop-j l = Done l.b l.j (added l.b l.h l.number l.initial.cols) l.initial.cols l.cols
