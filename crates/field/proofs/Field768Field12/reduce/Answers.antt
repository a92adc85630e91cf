-- The sixteen values are computed.
use borrow.Author.Rules.{rules}
use mathlib.Core.Bool.{Bool}
use Prim.Native.Nat.{ℕ, ◌*◌, ◌%◌, ◌^◌}
use lib.Bits.{bit_xor}
use lib.Dec.{eqb, eqb→eq}
use Rattle.spec.specs.Polynomials.{product}
use Rattle.laws.proofs.Tables.{at-below}
use Rattle.field.specs.Fields.{low768}
use Rattle.field.proofs.Field768Field12.reduce.Goals as goal

folded : ℕ → ℕ
folded c = bit_xor (bit_xor (bit_xor c (c * 2 ^ 4 % 2 ^ 64)) (c * 2 ^ 17 % 2 ^ 64)) (c * 2 ^ 19 % 2 ^ 64)

right : ℕ → Bool
right c = eqb (folded c) (product 4 low768 c)

pub returns : goal.returns
unfolding folded right product
returns c = eqb→eq (folded c.args.c) (product 4 low768 c.args.c) (at-below right 16 tt c.args.c (search rules))
