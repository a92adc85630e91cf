-- By the version.
use Rattle.generator.proofs.Blocks.{counter-one, counter-two}
use Rattle.generator.proofs.counter.Goals as goal

pub returns-in-One : goal.returns-in-One
returns-in-One c = counter-one _ _ _ _ _ _ c.in-One.is c.add_to_iv-whole.ensures c.load_state.ensures

pub returns-in-Two : goal.returns-in-Two
returns-in-Two c = counter-two _ _ _ _ _ _ c.in-Two.is c.load_state-in-Two.ensures c.add_to_words.ensures
