-- After x turns the first x challenges are counted.
use Prim.Native.Nat.{◌-◌, ◌≤◌}
use mathlib.Core.Path.{◌≡◌, ◌∙◌}
use Rattle.enumeration.proofs.Counts.{Counted}
use Rattle.enumeration.proofs.count_all.Given as goal

abbrev pub invariant-loop-x : goal.invariant-loop-x
invariant-loop-x l = (l.all ≤ 65536) × (l.t ≡ l.s.t) × Counted l.s l.x l.within l.total
