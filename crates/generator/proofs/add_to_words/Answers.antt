-- `add_to_word` on the first and the last column.
use Rattle.generator.proofs.add_to_words.Goals as goal

pub returns : goal.returns
returns c = cc
