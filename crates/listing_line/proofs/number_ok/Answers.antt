-- Digits up to the end of the text are no number; else the three tests are the definition's.
use mathlib.Core.Path.{refl, sym, ◌∙◌}
use Rattle.listing_line.specs.Line.{number_ok}
use Rattle.listing_line.proofs.Numbers.{no-space}
use Rattle.listing_line.proofs.number_ok.Goals as goal

pub returns-then-n-text : goal.returns-then-n-text
returns-then-n-text c = no-space _ (sym c.digit_run-n.ensures.0 ∙ c.if-n-text.true)

pub returns : goal.returns
unfolding number_ok
returns c = rw c.digit_run-n.ensures.0 refl
