-- Each test is the definition's, of the text behind as many numbers.
use Rattle.listing_line.specs.Line.{behind, line_ok}
use Rattle.listing_line.proofs.line_ok.Goals as goal

pub returns : goal.returns
unfolding line_ok behind
returns c = cc
