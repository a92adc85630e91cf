-- The rule of `PackedWords`. The product fits since each byte of `high` is 0 or 1.
use native.Mathlib.Omega.{arith}
use borrow.Author.Rules.{rules}
use lib.Bits.{and_le_r}
use Rattle.aes_steps.proofs.PackedWords.{packed-xtimes}
use Rattle.aes_steps.proofs.packed_xtimes.Goals as goal

pub overflow_mul-result : goal.overflow_mul-result
overflow_mul-result c = omega (arith, and_le_r c.args.w 0x80808080)

pub returns : goal.returns
returns c = packed-xtimes c.args.w (search rules)
