-- The code's tests are those of the definition, in its order.
use mathlib.Core.Path.{refl}
use Rattle.spec.specs.Calls.{row_ok}
use Rattle.rules.proofs.is_row_length.Goals as goal

pub returns : goal.returns
unfolding row_ok
returns c = refl
