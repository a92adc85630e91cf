-- `keccak::round` meets its contract, by those of its four steps.
use Rattle.spec.specs.Keccak.{round}
use Rattle.keccak.proofs.round.Goals as goal

pub returns : goal.returns
unfolding round
returns c = cc
