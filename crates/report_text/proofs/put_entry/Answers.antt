-- The place, at most five digits, a space, and by the number the pair or the refusal.
use native.Mathlib.Omega.{arith}
use borrow.Author.Tests.{eq-eqb, ne_eqb}
use Rattle.listing_text.proofs.Decimal.{decimal-short}
use Rattle.listing_text.proofs.Writing.{put_next}
use Rattle.report_text.specs.Text.{line_text}
use Rattle.report_text.proofs.put_entry.Goals as goal

pub put_decimal-end-requires : goal.put_decimal-end-requires
put_decimal-end-requires c = (omega (arith, decimal-short c.args.place c.requires.0))

pub put_byte-next-requires : goal.put_byte-next-requires
put_byte-next-requires c =
    omega (arith, decimal-short c.args.place c.requires.0, c.put_decimal-end.ensures.end, c.put_decimal-end.auto.out)

pub put_refusal-requires : goal.put_refusal-requires
put_refusal-requires c = (
  c.requires.1,
  omega (
    arith,
    decimal-short c.args.place c.requires.0,
    c.put_decimal-end.ensures.end,
    c.put_decimal-end.auto.out,
    c.put_byte-next.ensures.end,
    c.put_byte-next.auto.out,
  ),
)

pub returns-then-e-ne0 : goal.returns-then-e-ne0
unfolding line_text
returns-then-e-ne0 c = (
  rw (ne_eqb c.args.e.number 0 c.if-e-ne0.true) (put_next (put_next c.put_decimal-end.ensures c.put_byte-next.ensures) c.put_refusal.ensures.0),
  omega (
    arith,
    decimal-short c.args.place c.requires.0,
    c.put_decimal-end.ensures.end,
    c.put_byte-next.ensures.end,
    c.put_refusal.ensures.1,
  ),
)

pub put_pair-requires : goal.put_pair-requires
put_pair-requires c = (
  c.requires.2,
  c.requires.3,
  omega (
    arith,
    decimal-short c.args.place c.requires.0,
    c.put_decimal-end.ensures.end,
    c.put_decimal-end.auto.out,
    c.put_byte-next.ensures.end,
    c.put_byte-next.auto.out,
  ),
)

pub returns : goal.returns
unfolding line_text
returns c = (
  rw (eq-eqb c.args.e.number 0 c.if-e-ne0.false) (put_next (put_next c.put_decimal-end.ensures c.put_byte-next.ensures) c.put_pair.ensures.0),
  omega (
    arith,
    decimal-short c.args.place c.requires.0,
    c.put_decimal-end.ensures.end,
    c.put_byte-next.ensures.end,
    c.put_pair.ensures.1,
  ),
)
