-- The key has four bytes for each word.
use mathlib.Core.Path.{◌∙◌}
use Rattle.aes_keys.proofs.Schedules.{rounds-are}
use Rattle.keyed_schedule.proofs.KeyedSchedule.rounds.Goals as goal

pub returns-clause-count : goal.returns-clause-count
returns-clause-count c = c.rounds.ensures.count ∙ rounds-are _ _ _ c.self.invariant.least c.self.view_is
