-- At the end of the text nothing is left, with or without one byte more.
use Prim.Native.Nat.{ℕ, ◌+◌}
use mathlib.Core.Path.{ap, ◌∙◌}
use lib.ListN.{drop}
use Rattle.laws.proofs.Parts.{to_the_end}
use Rattle.listing_line.specs.Line.{after_number}
use Rattle.listing_line.proofs.Numbers.{after-end}
use Rattle.listing_line.proofs.after_number.Goals as goal

pub returns-then-n-text : goal.returns-then-n-text
returns-then-n-text c =
    let text = c.args.text.now in
    let n = c.digit_run-n in
    to_the_end text n.result ∙ after-end text n.result n.ensures.0 c.if-n-text.true

pub returns : goal.returns
unfolding after_number
returns c =
    let text = c.args.text.now in
    let n = c.digit_run-n in
    to_the_end text (n.result + 1) ∙ ap (λ (k : ℕ). drop (k + 1) text) n.ensures.0
