-- More than 65,536 bytes are refused, and else the entries are put.
use borrow.Author.Tests.{le-leb, lt-leb}
use lib.ListN.{length}
use Rattle.listing_text.proofs.Writing.{put_front}
use Rattle.report_text.specs.Text.{report_text}
use Rattle.report.proofs.report.Goals as goal

pub returns-then-input-gt65536 : goal.returns-then-input-gt65536
unfolding report_text
returns-then-input-gt65536 c =
    rw (lt-leb (length c.args.input.now) 65536 c.if-input-gt65536.true) (put_front c.put_refused.ensures)

pub returns : goal.returns
unfolding report_text
returns c =
    rw (le-leb (length c.args.input.now) 65536 c.if-input-gt65536.false) (put_front c.put_entries.ensures)
