-- The word, and behind it the line with the number.
use native.Mathlib.Omega.{arith}
use Rattle.listing_text.specs.Text.{refused_text}
use Rattle.listing_text.proofs.Decimal.{line-short}
use Rattle.listing_text.proofs.Writing.{put_next}
use Rattle.listing_text.proofs.put_refusal.Goals as goal

pub returns : goal.returns
unfolding refused_text
returns c = (
  put_next c.put_bytes-end.ensures c.put_line.ensures,
  omega (arith, c.put_bytes-end.ensures.end, c.put_line.ensures.end, line-short c.args.number c.requires.0),
)
