-- The round keys are those of the key, which they show.
use mathlib.Core.Path.{◌∙◌}
use Rattle.aes_keys.proofs.Schedules.{shown, scheduled}
use Rattle.keyed_schedule.proofs.KeyedSchedule.new.Goals as goal

pub of_round_keys-requires-clause-keyed : goal.of_round_keys-requires-clause-keyed
of_round_keys-requires-clause-keyed c =
    let p = c.requires in
    scheduled c.args.key.now _ p.0 p.2 c.key_schedule.ensures

pub returns : goal.returns
returns c =
    let p = c.requires in
    c.of_round_keys.ensures ∙ shown c.args.key.now _ p.0 p.2 c.key_schedule.ensures
