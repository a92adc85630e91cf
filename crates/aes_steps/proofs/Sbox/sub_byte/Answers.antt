-- The table's rule at x.
use borrow.Author.Rules.{rules}
use Rattle.aes_steps.proofs.Sbox.sub_byte.Goals as goal

pub returns : goal.returns
returns c = c.args.self.now.is_table c.args.x (search rules)
