-- The four steps of a round, twice, one after the other.
use Rattle.spec.specs.Aes.{round_of}
use Rattle.aes.proofs.two_rounds.Goals as goal

pub returns : goal.returns
unfolding round_of
returns c = cc
