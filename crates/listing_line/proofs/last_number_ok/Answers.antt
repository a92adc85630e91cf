-- With nothing behind the digits two tests are left, else the definition's four.
use Rattle.listing_line.proofs.Numbers.{last_end, last_more}
use Rattle.listing_line.proofs.last_number_ok.Goals as goal

pub returns-then-n-text : goal.returns-then-n-text
returns-then-n-text c = last_end _ c.digit_run-n.result c.digit_run-n.ensures.0 c.if-n-text.true

pub returns : goal.returns
returns c = last_more _ c.digit_run-n.result c.digit_run-n.ensures.0 c.if-n-text.false
