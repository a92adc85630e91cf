-- One digit, or the digits of the tenth part and behind them one more.
use mathlib.Core.Path.{ap}
use native.Mathlib.Omega.{arith}
use lib.ListN.{length}
use Rattle.listing_text.proofs.Decimal.{decimal-one, decimal-more, more-length}
use Rattle.listing_text.proofs.Writing.{put_next}
use Rattle.listing_text.proofs.+put_decimal.Goals as goal

pub put_digit-requires : goal.put_digit-requires
put_digit-requires t c = (omega arith, omega (arith, c.requires, ap length (decimal-one c.args.n (omega arith))))

pub returns-then-n-lt10 : goal.returns-then-n-lt10
returns-then-n-lt10 t c = rw (decimal-one c.args.n (omega arith)) c.put_digit.ensures

pub put_decimal-end-requires : goal.put_decimal-end-requires
put_decimal-end-requires t c = (omega (arith, c.decreases), omega (arith, c.requires, more-length c.args.n c.if-n-lt10.false))

pub put_digit-requires-2 : goal.put_digit-requires-2
put_digit-requires-2 t c =
    (omega arith, omega (arith, c.requires, more-length c.args.n c.if-n-lt10.false, c.put_decimal-end.ensures.end, c.put_decimal-end.auto.out))

pub returns : goal.returns
returns t c = rw (decimal-more _ c.if-n-lt10.false) (put_next c.put_decimal-end.ensures c.put_digit-2.ensures)
