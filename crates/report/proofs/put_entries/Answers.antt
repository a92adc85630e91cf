use mathlib.Core.Path.{refl, ap, ◌∙◌}
use native.Mathlib.Omega.{arith}
use lib.ListN.{length-drop}
use borrow.Author.Rules.{rules}
use Rattle.laws.proofs.Parts.{to_the_end}
use Rattle.listing_text.proofs.Writing.{rest-further}
use Rattle.report_text.specs.Entries.{entry_of}
use Rattle.report.proofs.Reported.{reported-none, entry-sized, reported-more, reported-all}
use Rattle.report.proofs.put_entries.Goals as goal

pub loop-at-init : goal.loop-at-init
loop-at-init c = ((c.requires.0, c.requires.1, search rules, refl, reported-none _ _))

pub put_entry-end-requires : goal.put_entry-end-requires
put_entry-end-requires c =
    let l = c.loop-at in
    let q = l.invariant.4 in
    let b = entry-sized _ _ _ _ _ _ _ c.loop-at.invariant.4 _ (c.entry-e.ensures ∙ ap entry_of (to_the_end c.args.input.now c.loop-at.at)) c.loop-at-test.true in
    (omega (arith, q.places, q.within), omega (arith, b.number), omega (arith, b.count), omega (arith, b.unused), omega (arith, q.room, q.within))

pub overflow_add-nodes : goal.overflow_add-nodes
overflow_add-nodes c =
    let l = c.loop-at in
    omega (arith, (entry-sized _ _ _ _ _ _ _ c.loop-at.invariant.4 _ (c.entry-e.ensures ∙ ap entry_of (to_the_end c.args.input.now c.loop-at.at)) c.loop-at-test.true).count, l.invariant.0, l.invariant.4.within, l.invariant.4.most-nodes)

pub overflow_add-unused : goal.overflow_add-unused
overflow_add-unused c =
    let l = c.loop-at in
    omega (arith, (entry-sized _ _ _ _ _ _ _ c.loop-at.invariant.4 _ (c.entry-e.ensures ∙ ap entry_of (to_the_end c.args.input.now c.loop-at.at)) c.loop-at-test.true).unused, l.invariant.0, l.invariant.4.within, l.invariant.4.most-unused)

pub overflow_add-place : goal.overflow_add-place
overflow_add-place c =
    let l = c.loop-at in
    omega (arith, l.invariant.0, l.invariant.4.within, l.invariant.4.places)

pub overflow_add-at : goal.overflow_add-at
overflow_add-at c =
    let l = c.loop-at in
    omega (arith, (entry-sized _ _ _ _ _ _ _ c.loop-at.invariant.4 _ (c.entry-e.ensures ∙ ap entry_of (to_the_end c.args.input.now c.loop-at.at)) c.loop-at-test.true).within, l.invariant.0, l.invariant.4.within, length-drop l.at c.args.input.now)

pub loop-at-smaller : goal.loop-at-smaller
loop-at-smaller c =
    let l = c.loop-at in
    let t = c.loop-at-test.true in
    let d = length-drop l.at c.args.input.now in
    omega (arith, (entry-sized _ _ _ _ _ _ _ c.loop-at.invariant.4 _ (c.entry-e.ensures ∙ ap entry_of (to_the_end c.args.input.now c.loop-at.at)) c.loop-at-test.true).some (omega arith))

pub loop-at-preserved : goal.loop-at-preserved
loop-at-preserved c =
    let l = c.loop-at in
    let out = c.put_entry-end in (
      l.invariant.0,
      omega (arith, l.invariant.1, out.auto.out),
      out.auto.out ∙ l.invariant.2,
      out.ensures.0.rest ∙ rest-further _ _ _ _ _ out.ensures.0.end l.invariant.3,
      reported-more _ _ _ _ _ _ _ l.invariant.4 _ (c.entry-e.ensures ∙ ap entry_of (to_the_end c.args.input.now c.loop-at.at)) c.loop-at-test.true _ _ out.ensures.0 out.ensures.1,
    )

pub put_total-requires : goal.put_total-requires
put_total-requires c =
    let l = c.loop-at in
    let q = l.invariant.4 in
    (omega (arith, q.most-nodes, q.within), omega (arith, q.most-unused, q.within), omega (arith, q.room, q.within))

pub shape_of-out : goal.shape_of-out
shape_of-out c = c.put_total.auto.out ∙ c.loop-at.invariant.2

pub returns : goal.returns
returns c =
    let l = c.loop-at in
    let q = l.invariant.4 in
    reported-all _ _ _ _ _ _ _ q c.loop-at-test.false _ _ _ (omega (arith, l.invariant.0, l.invariant.1, q.room, q.within)) l.invariant.3 c.put_total.ensures
