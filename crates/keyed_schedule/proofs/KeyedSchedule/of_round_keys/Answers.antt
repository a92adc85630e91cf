-- The schedule holds these round keys and their number, so the clauses on them are its invariant.
use native.Mathlib.Omega.{arith}
use Rattle.keyed_schedule.proofs.KeyedSchedule.of_round_keys.Goals as goal

pub invariant_of-result : goal.invariant_of-result
invariant_of-result c =
    let p = c.requires.bounds in
    let made = c.of_round_keys.ensures in
    record {
      least = omega (arith, made.count, p.0);
      most = omega (arith, made.count, p.1);
      even = omega (arith, made.count, p.2);
      keyed = rw (made.count, made.keys) c.requires.keyed;
    }

pub returns : goal.returns
returns c =
    let made = c.of_round_keys.ensures in
    rw (made.count, made.keys)
