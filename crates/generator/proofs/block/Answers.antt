-- The counter's state, encrypted.
use Rattle.std.proofs.Common.{ap, ◌∙◌}
use Rattle.spec.specs.Aes.{bytes_of}
use Rattle.generator.proofs.Blocks.{block-is}
use Rattle.generator.proofs.block.Goals as goal

pub returns : goal.returns
returns c = λ nk key e. block-is nk key c.args.x _ _ _ c.counter.ensures (c.bytes_of.ensures ∙ ap bytes_of (c.encrypt.ensures nk key e))
