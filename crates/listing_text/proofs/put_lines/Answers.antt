use mathlib.Core.Path.{◌≡◌, ◌∙◌}
use native.Mathlib.Omega.{arith}
use native.Mathlib.Numerals.{add-one}
use lib.ListN.{length, get_or}
use borrow.Author.Rules.{rules}
use Rattle.spec.specs.Bytes.{concat}
use Rattle.listing_text.proofs.Decimal.{line-short}
use Rattle.listing_text.proofs.Writing.{put-none, put_next}
use Rattle.listing_text.proofs.put_lines.Goals as goal

pub loop-number-init : goal.loop-number-init
unfolding concat
loop-number-init c = (search rules, omega arith, put-none _ _)

pub put_line-end-requires : goal.put_line-end-requires
put_line-end-requires c =
    let p = c.requires in
    (p.1 c.loop-number.number-index, omega arith)

pub loop-number-preserved : goal.loop-number-preserved
unfolding concat
loop-number-preserved c =
    let l = c.loop-number in
    let p = c.put_line-end in (
      p.auto.out ∙ l.invariant.0,
      omega (arith, p.ensures.end, line-short (get_or c.args.numbers.now l.number-index 0) (c.requires.1 l.number-index)),
      rw add-one (put_next l.invariant.2 p.ensures),
    )

pub shape_of-out : goal.shape_of-out
shape_of-out c = c.loop-number.invariant.0

pub returns : goal.returns
returns c =
    let l = c.loop-number in
    let e : l.number-index ≡ length c.args.numbers.now = omega arith in
    rw e at l.invariant.2
