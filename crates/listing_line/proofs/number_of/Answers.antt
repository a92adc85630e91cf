use mathlib.Core.List.{List}
use Prim.Native.Nat.{ℕ, ◌≤◌, ◌<◌}
use mathlib.Core.Path.{◌≡◌, sym, ap, ◌∙◌}
use native.Mathlib.Omega.{arith}
use borrow.Author.Rules.{rules}
use native.Mathlib.Numerals.{add-one}
use lib.ListN.{get_or, take}
use Rattle.listing_line.specs.Line.{digit_run, decimal_from, number_of}
use Rattle.listing_line.proofs.Numbers.{digit-bounds, run-digits, value-more, value-small}
use Rattle.listing_line.proofs.number_of.Goals as goal

-- before digit i of the run at the front of a text, the number v so far is small, and the digit is one
known : (text : List ℕ) (v i : ℕ) → digit_run text ≤ 5 → v ≡ decimal_from 0 (take i text) → i < digit_run text
    → (v < 10000) × (48 ≤ get_or text i 0) × (get_or text i 0 ≤ 57)
known text v i short e h = (let d = digit-bounds (get_or text i 0) (run-digits _ _ h) in (rw e (value-small _ _ short h), d.0, d.1))

pub digit_run-n-requires : goal.digit_run-n-requires
digit_run-n-requires c = tt

pub loop-i-init : goal.loop-i-init
unfolding decimal_from
loop-i-init c = search rules

pub overflow_mul-v : goal.overflow_mul-v
overflow_mul-v c = omega (arith, known c.args.text.now c.loop-i.v c.loop-i.i c.requires c.loop-i.invariant (rw c.digit_run-n.ensures.0 at c.loop-i-test.true))

pub overflow_sub-v : goal.overflow_sub-v
overflow_sub-v c = (known c.args.text.now c.loop-i.v c.loop-i.i c.requires c.loop-i.invariant (rw c.digit_run-n.ensures.0 at c.loop-i-test.true)).1

pub overflow_cast-v : goal.overflow_cast-v
overflow_cast-v c = omega (arith, known c.args.text.now c.loop-i.v c.loop-i.i c.requires c.loop-i.invariant (rw c.digit_run-n.ensures.0 at c.loop-i-test.true))

pub overflow_add-v : goal.overflow_add-v
overflow_add-v c = omega (arith, known c.args.text.now c.loop-i.v c.loop-i.i c.requires c.loop-i.invariant (rw c.digit_run-n.ensures.0 at c.loop-i-test.true))

pub loop-i-preserved : goal.loop-i-preserved
loop-i-preserved c =
    let text = c.args.text.now in
    let l = c.loop-i in
    let r = c.digit_run-n.ensures.1 in
    rw (l.invariant, add-one) (sym (value-more 0 text l.i (omega arith)))

pub returns : goal.returns
unfolding number_of
returns c =
    let text = c.args.text.now in
    let l = c.loop-i in
    let e : l.i ≡ digit_run text = omega (arith, c.digit_run-n.ensures.0) in
    l.invariant ∙ ap (λ (n : ℕ). decimal_from 0 (take n text)) e
