-- Shifts move whole bytes: `packed-rot` of `PackedWords`.
use borrow.Author.Rules.{rules}
use Rattle.aes_steps.proofs.PackedWords.{packed-rot}
use Rattle.aes_steps.proofs.packed_rot.Goals as goal

pub returns : goal.returns
returns c = packed-rot c.args.w (search rules)
