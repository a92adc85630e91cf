use mathlib.Core.Path.{◌≡◌}
use mathlib.Core.Path.{◌≡◌}
use native.Mathlib.Omega.{arith}
use lib.ListN.{length}
use borrow.Author.Count.{below_none, below_more}
use Rattle.laws.proofs.Tests.{failed, passed}
use Rattle.listing_line.proofs.Numbers.{run_is, end-no-digit}
use Rattle.listing_line.proofs.digit_run.Goals as goal

pub loop-i-init : goal.loop-i-init
loop-i-init c = below_none _

pub is_digit-requires : goal.is_digit-requires
is_digit-requires c = tt

pub returns-then-not-is_digit : goal.returns-then-not-is_digit
returns-then-not-is_digit c =
    let l = c.loop-i in
    (run_is _ l.i (omega arith) l.invariant (failed c.is_digit.ensures c.if-not-is_digit.true), omega arith)

pub loop-i-preserved : goal.loop-i-preserved
loop-i-preserved c =
    let l = c.loop-i in
    below_more _ l.i l.invariant (passed c.is_digit.ensures c.if-not-is_digit.false)

pub returns : goal.returns
returns c =
    let l = c.loop-i in
    let e : l.i ≡ length c.args.text.now = omega arith in
    rw (← e) (run_is _ l.i (omega arith) l.invariant (end-no-digit c.args.text.now _ (omega arith)), omega arith)
