-- The code's tests are those of the definition, in its order.
use mathlib.Core.Path.{refl}
use Rattle.rules.proofs.is_level.Goals as goal

pub returns : goal.returns
returns c = refl
