-- A line that cannot be read prints 7, any other what the plan of its shape and challenge prints.
use mathlib.Core.Path.{ap}
use borrow.Author.Rules.{rules}
use Rattle.spec.specs.declared.Shape.{Shape}
use Rattle.laws.proofs.Tests.{failed, passed}
use Rattle.listing_line.specs.Line.{shape_of}
use Rattle.listing_line.proofs.Lines.{line-facts, line-numbers}
use Rattle.listing_text.proofs.Writing.{put_front}
use Rattle.listing.specs.Listing.{listing}
use Rattle.listing.proofs.list.Goals as goal

pub returns-then-not-line_ok : goal.returns-then-not-line_ok
unfolding listing
returns-then-not-line_ok c =
    rw (failed c.line_ok.ensures c.if-not-line_ok.true)
    (put_front c.put_refused.ensures)

pub challenge_of-challenge-requires : goal.challenge_of-challenge-requires
challenge_of-challenge-requires c = rw c.behind.ensures (line-facts _ (passed c.line_ok.ensures c.if-not-line_ok.false)).challenge

pub shape_of-requires : goal.shape_of-requires
shape_of-requires c = line-numbers _ (passed c.line_ok.ensures c.if-not-line_ok.false)

pub put_plan-requires : goal.put_plan-requires
unfolding shape_of
put_plan-requires c = (search rules, search rules, ap (λ (s : Shape). s.level) c.shape_of.ensures)

pub returns : goal.returns
unfolding listing
returns c =
    let s = c.shape_of.ensures in
    let ch = c.challenge_of-challenge.ensures in
    rw (passed c.line_ok.ensures c.if-not-line_ok.false) (put_front (rw (s, ch, c.behind.ensures) at c.put_plan.ensures))
