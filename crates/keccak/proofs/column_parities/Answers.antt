-- The array and the definition compute to one list.
use mathlib.Core.Path.{refl}
use Rattle.spec.specs.Bytes.{tabulate}
use Rattle.spec.specs.Keccak.{column_parities}
use Rattle.keccak.proofs.column_parities.Goals as goal

pub returns : goal.returns
unfolding tabulate column_parities
returns c = refl
