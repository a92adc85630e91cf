-- The rule for the constants computes to the table.
use mathlib.Core.Path.{refl}
use Rattle.spec.specs.Bytes.{tabulate}
use Rattle.spec.specs.Keccak.{register, rc, round_constant_up_to, round_constant}
use Rattle.keccak.proofs.round_constants.Goals as goal

pub returns : goal.returns
unfolding tabulate register rc round_constant_up_to round_constant
returns c = refl
