-- The array and the definition compute to one list.
use mathlib.Core.Path.{refl}
use Rattle.spec.specs.Bytes.{tabulate}
use Rattle.spec.specs.Keccak.{add_columns}
use Rattle.keccak.proofs.add_columns.Goals as goal

pub returns : goal.returns
unfolding tabulate add_columns
returns c = refl
