-- The sum of the number that the word writes, written out again.
use Rattle.spec.specs.Generator.{add_to_word}
use Rattle.generator.proofs.add_to_word.Goals as goal

pub returns : goal.returns
unfolding add_to_word
returns c = cc
