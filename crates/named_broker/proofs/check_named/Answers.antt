-- What the front refuses is one law of the sets' `Numbers`; of a named set the check beneath says the same.
use mathlib.Core.Path.{sym}
use Rattle.spec.specs.Primitives.{faest}
use Rattle.named_sets.proofs.Numbers.{front-passed, check-front, same-as-record}
use Rattle.record_reading.proofs.Fronts.{numbered}
use Rattle.named_broker.proofs.check_named.Goals as goal

pub check_front-requires : goal.check_front-requires
check_front-requires c = record { number = sym c.in-Ok.ensures.said.read; said = c.in-Ok.ensures.said }

pub returns-in-Ok : goal.returns-in-Ok
returns-in-Ok c = same-as-record faest _ (front-passed _ (sym c.in-Ok.ensures.number)) _ _ _ c.check_front.ensures

pub returns-in-Err : goal.returns-in-Err
returns-in-Err c = check-front faest _ _ _ c.in-Err.ensures.number (numbered _) _ c.from.ensures
