-- The first word as the definition has it, and the others by `chain`.
use Rattle.aes_keys.specs.RoundKeys.{odd_round_key}
use Rattle.aes_keys.proofs.odd_key.Goals as goal

pub returns : goal.returns
unfolding odd_round_key
returns c = cc
