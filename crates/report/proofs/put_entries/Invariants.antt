-- After each turn the records up to `at` are reported: the laws of `Reported`.
use Prim.Native.Nat.{◌-◌, ◌≤◌}
use mathlib.Core.Path.{◌≡◌}
use lib.ListN.{length, drop}
use Rattle.report.proofs.Reported.{Reported}
use Rattle.report.proofs.put_entries.Given as goal

abbrev pub invariant-loop-at : goal.invariant-loop-at
invariant-loop-at l =
    (length l.input ≤ 65536) × (65600 ≤ length l.out) × (length l.out ≡ length l.initial.out) × (drop l.end l.out ≡ drop l.end l.initial.out) × Reported l.input l.out l.nodes l.unused l.place l.end l.at

abbrev pub decreases-loop-at : goal.decreases-loop-at
decreases-loop-at l = length l.input - l.at
