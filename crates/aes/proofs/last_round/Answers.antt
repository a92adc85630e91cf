-- The three steps, one after the other.
use Rattle.spec.specs.Aes.{last_round}
use Rattle.aes.proofs.last_round.Goals as goal

pub returns : goal.returns
unfolding last_round
returns c = cc
