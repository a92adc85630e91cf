-- Each word is the sum that the definition has.
use Rattle.aes_keys.proofs.chain.Goals as goal

pub returns : goal.returns
returns c = cc
