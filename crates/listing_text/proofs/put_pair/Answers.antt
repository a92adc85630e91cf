-- A number, a space, a number and a line feed; the numbers have at most ten digits each.
use native.Mathlib.Omega.{arith}
use Rattle.listing_text.proofs.Decimal.{decimal-length}
use Rattle.listing_text.proofs.Writing.{put_next}
use Rattle.listing_text.specs.Text.{pair_text}
use Rattle.listing_text.proofs.put_pair.Goals as goal

pub put_decimal-end-requires : goal.put_decimal-end-requires
put_decimal-end-requires c = (omega (arith, c.requires.2, decimal-length 9 c.args.m c.requires.0))

pub put_byte-next-requires : goal.put_byte-next-requires
put_byte-next-requires c =
    omega (arith, c.requires.2, decimal-length 9 c.args.m c.requires.0, c.put_decimal-end.ensures.end, c.put_decimal-end.auto.out)

pub put_decimal-last-requires : goal.put_decimal-last-requires
put_decimal-last-requires c =
    omega (
      arith,
      c.requires.2,
      decimal-length 9 c.args.m c.requires.0,
      decimal-length 9 c.args.n c.requires.1,
      c.put_decimal-end.ensures.end,
      c.put_decimal-end.auto.out,
      c.put_byte-next.ensures.end,
      c.put_byte-next.auto.out,
    )

pub put_byte-requires : goal.put_byte-requires
put_byte-requires c =
    omega (
      arith,
      c.requires.2,
      decimal-length 9 c.args.m c.requires.0,
      decimal-length 9 c.args.n c.requires.1,
      c.put_decimal-end.ensures.end,
      c.put_decimal-end.auto.out,
      c.put_byte-next.ensures.end,
      c.put_byte-next.auto.out,
      c.put_decimal-last.ensures.end,
      c.put_decimal-last.auto.out,
    )

pub returns : goal.returns
unfolding pair_text
returns c = (
  put_next (put_next c.put_decimal-end.ensures c.put_byte-next.ensures) (put_next c.put_decimal-last.ensures c.put_byte.ensures),
  omega (
    arith,
    decimal-length 9 c.args.m c.requires.0,
    decimal-length 9 c.args.n c.requires.1,
    c.put_decimal-end.ensures.end,
    c.put_byte-next.ensures.end,
    c.put_decimal-last.ensures.end,
    c.put_byte.ensures.end,
  ),
)
