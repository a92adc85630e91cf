-- The word, the line with the count, and a line for each node.
use native.Mathlib.Omega.{arith}
use lib.ListN.{length}
use Rattle.listing_text.specs.Text.{nodes_text}
use Rattle.listing_text.proofs.Decimal.{line-short}
use Rattle.listing_text.proofs.Writing.{put_next}
use Rattle.listing_text.proofs.put_nodes.Goals as goal

pub put_lines-requires : goal.put_lines-requires
put_lines-requires c =
    let w = c.put_bytes-at in (
      omega (
        arith,
        c.requires.1,
        w.ensures.end,
        w.auto.out,
        c.put_line-first.ensures.end,
        c.put_line-first.auto.out,
        line-short (length c.args.nodes.now) c.requires.0,
      ),
      c.requires.2,
    )

pub returns : goal.returns
unfolding nodes_text
returns c =
    put_next (put_next c.put_bytes-at.ensures c.put_line-first.ensures) c.put_lines.ensures
