-- The digits, at most five, and behind them the line feed.
use native.Mathlib.Omega.{arith}
use Rattle.listing_text.proofs.Decimal.{decimal-short}
use Rattle.listing_text.proofs.Writing.{put_next}
use Rattle.listing_text.proofs.put_line.Goals as goal

pub put_decimal-end-requires : goal.put_decimal-end-requires
put_decimal-end-requires c = (omega (arith, decimal-short c.args.n c.requires.0))

pub put_byte-requires : goal.put_byte-requires
put_byte-requires c =
    let d = c.put_decimal-end in
    omega (arith, decimal-short c.args.n c.requires.0, d.ensures.end, d.auto.out)

pub returns : goal.returns
returns c = put_next c.put_decimal-end.ensures c.put_byte.ensures
