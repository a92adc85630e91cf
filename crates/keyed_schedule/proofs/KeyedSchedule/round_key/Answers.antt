-- The schedule is the key's.
use native.Mathlib.Omega.{arith}
use Rattle.aes_keys.specs.RoundKeys.{words}
use Rattle.keyed_schedule.proofs.Schedules.{expands}
use Rattle.keyed_schedule.proofs.KeyedSchedule.round_key.Goals as goal

pub round_key-requires : goal.round_key-requires
round_key-requires c =
    let x = expands _ _ c.self.invariant.least c.self.invariant.keyed c.self.view_is in
    let n = x.count in
    omega (arith, c.requires)

pub returns : goal.returns
returns c =
    let key = c.args.self.now in
    c.round_key.ensures (words key) key (expands _ _ c.self.invariant.least c.self.invariant.keyed c.self.view_is)
