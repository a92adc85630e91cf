-- What the front refuses is one law of the sets' `Numbers`; of a named set it is what the exported check_record promises.
use mathlib.Core.Path.{sym, ◌∙◌}
use Rattle.spec.specs.Primitives.{faest}
use Rattle.named_sets.proofs.Numbers.{front-passed, check-front-host, same-as-host}
use Rattle.broker_host.proofs.rachnoel_check_named.Goals as goal

pub returns-then-number-ne0 : goal.returns-then-number-ne0
returns-then-number-ne0 c = check-front-host faest _ _ _ c.front_number-number.ensures c.if-number-ne0.true _

pub returns : goal.returns
returns c =
    same-as-host faest _ (front-passed _ (sym c.front_number-number.ensures ∙ c.if-number-ne0.false)) _ _ _ _ _ c.rachnoel_check_record.ensures
