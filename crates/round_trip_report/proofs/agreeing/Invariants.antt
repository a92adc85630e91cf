-- No more columns agree than were seen.
use Rattle.std.proofs.Common.{◌≤◌}
use Rattle.round_trip_report.proofs.agreeing.Given as goal

abbrev pub invariant-loop-c : goal.invariant-loop-c
invariant-loop-c l = l.n ≤ l.c
