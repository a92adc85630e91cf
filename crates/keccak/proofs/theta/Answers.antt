-- `keccak::theta` meets its contract, by those of its three steps.
use Rattle.spec.specs.Keccak.{theta}
use Rattle.keccak.proofs.theta.Goals as goal

pub returns : goal.returns
unfolding theta
returns c = cc
