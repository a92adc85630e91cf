-- A hexadecimal digit is a decimal one or lies from `a` to `f`.
use mathlib.Core.Path.{sym, ◌∙◌}
use native.Mathlib.Omega.{arith}
use Rattle.listing_line.proofs.Numbers.{digit-bounds}
use Rattle.listing_line.proofs.Challenge.{hex-bounds}
use Rattle.listing_line.proofs.hex_value.Goals as goal

pub overflow_sub-result : goal.overflow_sub-result
overflow_sub-result c = (digit-bounds _ (sym c.is_digit.ensures ∙ c.if-is_digit.true)).0

pub returns-then-is_digit : goal.returns-then-is_digit
returns-then-is_digit c =
    let e = sym c.is_digit.ensures ∙ c.if-is_digit.true in
    rw e (omega (arith, digit-bounds c.args.c e))

pub overflow_sub-result-2 : goal.overflow_sub-result-2
overflow_sub-result-2 c = (hex-bounds _ c.requires (sym c.is_digit.ensures ∙ c.if-is_digit.false)).0

pub returns : goal.returns
returns c =
    let e = sym c.is_digit.ensures ∙ c.if-is_digit.false in
    rw e (omega (arith, hex-bounds c.args.c c.requires e))
