-- The word, and behind it the pair.
use Rattle.listing_text.proofs.Writing.{put_next}
use Rattle.report_text.specs.Text.{total_text}
use Rattle.report_text.proofs.put_total.Goals as goal

pub returns : goal.returns
unfolding total_text
returns c =
    put_next c.put_bytes-end.ensures c.put_pair.ensures.0
