-- 32 digits, a space, and the line with the count, of at most six bytes.
use native.Mathlib.Omega.{arith}
use Rattle.listing_text.proofs.Decimal.{line-short}
use Rattle.listing_text.proofs.Writing.{put_next}
use Rattle.enumeration_text.specs.Text.{line_text}
use Rattle.enumeration_text.proofs.Lines.{hex-length}
use Rattle.enumeration_text.proofs.put_listed.Goals as goal

pub put_hex-end-requires : goal.put_hex-end-requires
put_hex-end-requires c = (omega (arith, c.requires.0, c.requires.2))

pub put_byte-next-requires : goal.put_byte-next-requires
put_byte-next-requires c =
    let h = c.put_hex-end in
    omega (arith, c.requires.0, c.requires.2, h.ensures.end, h.auto.out, hex-length c.args.challenge.now)

pub put_line-requires : goal.put_line-requires
put_line-requires c = (
  c.requires.1,
  omega (
    arith,
    c.requires.0,
    c.requires.2,
    c.put_hex-end.ensures.end,
    c.put_hex-end.auto.out,
    c.put_byte-next.ensures.end,
    c.put_byte-next.auto.out,
    hex-length c.args.challenge.now,
  ),
)

pub returns : goal.returns
unfolding line_text
returns c = (
  put_next (put_next c.put_hex-end.ensures c.put_byte-next.ensures) c.put_line.ensures,
  omega (
    arith,
    c.requires.0,
    c.put_hex-end.ensures.end,
    c.put_byte-next.ensures.end,
    c.put_line.ensures.end,
    hex-length c.args.challenge.now,
    line-short c.args.count c.requires.1,
  ),
)
