-- The code's tests are those of the definition, in its order.
use mathlib.Core.Path.{refl}
use Rattle.named_sets.proofs.is_row.Goals as goal

pub returns : goal.returns
returns c = refl
