-- The first four words by `next_key`, and each of the others as the definition has it.
use Rattle.aes_keys.specs.RoundKeys.{next_six}
use Rattle.aes_keys.proofs.next_six.Goals as goal

pub returns : goal.returns
unfolding next_six
returns c = cc
