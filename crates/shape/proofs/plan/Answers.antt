-- With a number nothing is written; where every test is passed, the nodes, which the call's own list has room for, are copied.
use mathlib.Core.Path.{refl, sym, ap, ◌∙◌}
use mathlib.Core.List.{List, ◌++◌}
use Prim.Native.Nat.{ℕ}
use native.Mathlib.Omega.{arith}
use lib.ListN.{drop, length-replicate}
use lib.Seq.{length-take-le}
use Rattle.planning_laws.proofs.ShapeFacts.{shape-facts}
use Rattle.refusals.proofs.Numbers.{plan-accepted}
use Rattle.refusals.proofs.Outcomes.{numbered}
use Rattle.shape.proofs.Answers.{plan-refused, plan-written, plan-fits}
use Rattle.shape.proofs.plan.Goals as goal

pub slice_bounds-copy_from_slice-end : goal.slice_bounds-copy_from_slice-end
slice_bounds-copy_from_slice-end c = (plan-fits _ _ c.resolve-s.ensures _ _ _ c.in-Ok.ensures.0 refl).0

pub slice_bounds-copy_from_slice-end-in-Ok : goal.slice_bounds-copy_from_slice-end-in-Ok
slice_bounds-copy_from_slice-end-in-Ok c = sym (length-take-le _ _ (plan-fits _ _ c.resolve-s.ensures _ _ _ c.in-Ok.ensures.0 refl).0)

pub slice_bounds-list-end : goal.slice_bounds-list-end
slice_bounds-list-end c = rw c.test_plan.auto.nodes (plan-fits _ _ c.resolve-s.ensures _ _ _ c.in-Ok.ensures.0 refl).1

pub slice_bounds-copy_from_slice-end-in-Ok-2 : goal.slice_bounds-copy_from_slice-end-in-Ok-2
slice_bounds-copy_from_slice-end-in-Ok-2 c =
    let room = (plan-fits _ _ c.resolve-s.ensures _ _ _ c.in-Ok.ensures.0 refl).1 in
    sym (length-take-le _ _ (rw c.test_plan.auto.nodes room))

pub copy_from_slice-requires : goal.copy_from_slice-requires
copy_from_slice-requires c =
    let room = plan-fits _ _ c.resolve-s.ensures _ _ _ c.in-Ok.ensures.0 refl in
    length-take-le _ _ room.0 ∙ sym (length-take-le _ _ (rw c.test_plan.auto.nodes room.1))

pub returns-in-Ok : goal.returns-in-Ok
returns-in-Ok c =
    let answer = c.in-Ok.ensures in
    let q = plan-accepted _ _ _ _ answer.0 refl in
    let f = shape-facts c.resolve-s.result q.0 in
    let listed = answer.1 refl (rw length-replicate (omega arith)) in
    plan-written _ _ c.resolve-s.ensures _ _ _ answer.0 _ _ refl q.2 listed (ap (λ (ys : List ℕ). ys ++ drop c.in-Ok.count c.args.nodes.now) c.copy_from_slice.ensures.after)

pub returns-in-Err : goal.returns-in-Err
returns-in-Err c = rw c.from.ensures (plan-refused _ _ c.resolve-s.ensures _ _ _ c.in-Err.ensures.0 (numbered _))
