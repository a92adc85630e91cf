-- The sixteen values are computed.
use borrow.Author.Rules.{rules}
use mathlib.Core.Bool.{Bool}
use Prim.Native.Nat.{ℕ, ◌*◌, ◌%◌, ◌^◌}
use lib.Bits.{bit_xor}
use lib.Dec.{eqb, eqb→eq}
use Rattle.spec.specs.Polynomials.{product}
use Rattle.laws.proofs.Tables.{at-below}
use Rattle.field.specs.Fields.{low576}
use Rattle.field.proofs.Field576Field9.reduce.Goals as goal

folded : ℕ → ℕ
folded c = bit_xor (bit_xor (bit_xor c (c * 2 ^ 3 % 2 ^ 64)) (c * 2 ^ 4 % 2 ^ 64)) (c * 2 ^ 13 % 2 ^ 64)

right : ℕ → Bool
right c = eqb (folded c) (product 4 low576 c)

pub returns : goal.returns
unfolding folded right product
returns c = eqb→eq (folded c.args.c) (product 4 low576 c.args.c) (at-below right 16 tt c.args.c (search rules))
