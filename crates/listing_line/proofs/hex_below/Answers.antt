use mathlib.Core.Path.{sym, ap, ◌∙◌}
use native.Mathlib.Omega.{arith}
use borrow.Author.Rules.{rules}
use Rattle.laws.proofs.Tests.{failed, passed}
use Rattle.listing_line.specs.Line.{hex_below}
use Rattle.listing_line.proofs.Challenge.{hex-stop, hex-more}
use Rattle.listing_line.proofs.hex_below.Goals as goal

pub loop-i-init : goal.loop-i-init
unfolding hex_below
loop-i-init c = search rules

pub is_hex_digit-requires : goal.is_hex_digit-requires
is_hex_digit-requires c = tt

pub returns-then-not-is_hex_digit : goal.returns-then-not-is_hex_digit
returns-then-not-is_hex_digit c =
    hex-stop _ _ c.loop-i.i c.loop-i-test.true (failed c.is_hex_digit.ensures c.if-not-is_hex_digit.true)

pub loop-i-preserved : goal.loop-i-preserved
loop-i-preserved c =
    let l = c.loop-i in
    hex-more l.i _ l.invariant (passed c.is_hex_digit.ensures c.if-not-is_hex_digit.false)

pub returns : goal.returns
returns c =
    let l = c.loop-i in
    sym (ap (λ n. hex_below n c.args.text.now) (omega arith) ∙ l.invariant)
