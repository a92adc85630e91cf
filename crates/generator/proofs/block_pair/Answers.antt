-- Two counters' states, encrypted; in version 1 one block after the other.
use Rattle.std.proofs.Common.{◌+◌}
use Rattle.generator.proofs.Blocks.{counter-two, block-is}
use Rattle.generator.proofs.block_pair.Goals as goal

pub returns-in-Two-clause-first : goal.returns-in-Two-clause-first
returns-in-Two-clause-first c = λ nk key e.
    let a = c.args in
    block-is nk key a.x a.n _ _ (counter-two _ _ _ _ _ _ c.in-Two.is c.load_state-s.ensures c.add_to_words.ensures) (c.encrypt_pair.ensures.first nk key e)

pub returns-in-Two-clause-second : goal.returns-in-Two-clause-second
returns-in-Two-clause-second c = λ nk key e.
    let a = c.args in
    block-is nk key a.x (a.n + 1) _ _ (counter-two _ _ _ _ _ _ c.in-Two.is c.load_state-s.ensures c.add_to_words-in-Two.ensures) (c.encrypt_pair.ensures.second nk key e)
