-- `aes_steps::xor_word` meets its contract by computation.
use mathlib.Core.Path.{refl}
use Rattle.spec.specs.Aes.{xor_word}
use Rattle.aes_steps.proofs.xor_word.Goals as goal

pub returns : goal.returns
unfolding xor_word
returns c = refl
