-- `sub_byte`, four times.
use Rattle.spec.specs.Aes.{sub_word}
use Rattle.aes_steps.proofs.sub_word.Goals as goal

pub returns : goal.returns
unfolding sub_word
returns c = cc
