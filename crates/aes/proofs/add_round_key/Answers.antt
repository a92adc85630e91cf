-- `xor_word`, column by column.
use Rattle.spec.specs.Aes.{add_round_key}
use Rattle.aes.proofs.add_round_key.Goals as goal

pub returns : goal.returns
unfolding add_round_key
returns c = cc
