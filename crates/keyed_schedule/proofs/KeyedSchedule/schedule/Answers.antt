-- The schedule is the key's, by the invariant.
use Rattle.keyed_schedule.proofs.Schedules.{expands}
use Rattle.keyed_schedule.proofs.KeyedSchedule.schedule.Goals as goal

pub returns : goal.returns
returns c = expands _ _ c.self.invariant.least c.self.invariant.keyed c.self.view_is
