-- What `add_row` ensures, of a key of four words.
use borrow.Author.Rules.{rules}
use Rattle.spec.specs.Generator.{generator_block, generator_byte}
use Rattle.job.specs.Versions.{counter_of, block_of, byte_of}
use Rattle.bench_exports.proofs.rattle_add_row.Goals as goal

pub returns : goal.returns
unfolding counter_of block_of byte_of generator_block generator_byte
returns c = c.add_row.ensures 4 (search rules)
