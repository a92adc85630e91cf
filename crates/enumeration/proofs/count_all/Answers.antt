use Prim.Native.Nat.{◌-◌, ◌≤◌}
use mathlib.Core.Path.{◌≡◌, ap, ◌∙◌}
use native.Mathlib.Omega.{arith}
use borrow.Author.Rules.{rules}
use Rattle.spec.specs.Shapes.{planned_count}
use Rattle.enumeration.proofs.Counts.{counted_none, counted-more, counted-all}
use Rattle.enumeration.proofs.Readings.{level-128}
use Rattle.enumeration.proofs.count_all.Goals as goal

pub loop-x-init : goal.loop-x-init
loop-x-init c = (c.line_count-all.ensures.2, search rules, counted_none _)

pub count_of-count-requires : goal.count_of-count-requires
count_of-count-requires c = ((c.requires.0, level-128 c.args.s c.requires.0 c.requires.1))

pub overflow_add-within : goal.overflow_add-within
overflow_add-within c = omega (arith, c.loop-x.invariant.2.few, c.one_within-within.ensures.1)

pub overflow_add-total : goal.overflow_add-total
overflow_add-total c = omega (arith, c.loop-x.invariant.2.most, c.count_of-count.ensures.1)

pub loop-x-preserved : goal.loop-x-preserved
loop-x-preserved c =
    let l = c.loop-x in
    let s = c.args.s in
    let n = c.count_of-count.ensures in (
      l.invariant.0,
      l.invariant.1,
      counted-more s l.x l.within l.total c.count_of-count.result c.one_within-within.result l.invariant.2
          (n.0 ∙ ap (planned_count s) (c.challenge_at.ensures s (level-128 s c.requires.0 c.requires.1))) n.1 c.one_within-within.ensures.0 c.one_within-within.ensures.1,
    )

pub returns : goal.returns
returns c =
    let l = c.loop-x in
    let a = c.line_count-all.ensures in
    let s = c.args.s in
    let q = l.invariant.2 in
    let e : l.x ≡ c.line_count-all.result = omega arith in
    let r = counted-all s l.x l.within l.total (e ∙ a.0) q in
    (r.0, r.1, omega (arith, q.few), omega (arith, q.most))
