-- `keccak::iota` meets its contract, by computing.
use mathlib.Core.Path.{refl}
use Rattle.spec.specs.Keccak.{iota}
use Rattle.keccak.proofs.iota.Goals as goal

pub returns : goal.returns
unfolding iota
returns c = refl
