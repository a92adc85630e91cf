-- The number of what the front gives.
use mathlib.Core.Path.{◌∙◌}
use Rattle.named_broker.proofs.front_number.Goals as goal

pub returns-in-Ok : goal.returns-in-Ok
returns-in-Ok c = c.in-Ok.ensures.number

pub returns-in-Err : goal.returns-in-Err
returns-in-Err c = c.number.ensures ∙ c.in-Err.ensures.number
