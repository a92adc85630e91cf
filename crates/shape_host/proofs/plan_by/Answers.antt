-- The laws of plan in `Plan`.
use mathlib.Core.Path.{◌≡◌, sym, ◌∙◌}
use native.Mathlib.Omega.{arith}
use lib.Seq.{length-take-le}
use Rattle.shape_host.proofs.Plan.{plan-sized, plan-room, plan-host}
use Rattle.shape_host.proofs.plan_by.Goals as goal

pub slice_bounds-plan-end-2 : goal.slice_bounds-plan-end-2
slice_bounds-plan-end-2 c = sym (length-take-le c.numbers_in-n.result c.args.list.now (omega (arith, c.numbers_in-n.ensures.0, c.requires)))

pub put_list-requires : goal.put_list-requires
put_list-requires c =
    let a = c.args in
    plan-room a.shape a.challenge.now a.nodes.now a.count.now _ _ _ c.numbers_in-n.result (length-take-le c.numbers_in-n.result c.args.list.now (omega (arith, c.numbers_in-n.ensures.0, c.requires))) c.numbers_in-n.ensures.1 c.plan-a.ensures _ (c.plan-a.auto.nodes ∙ (length-take-le c.numbers_in-n.result c.args.list.now (omega (arith, c.numbers_in-n.ensures.0, c.requires))))

pub give-requires : goal.give-requires
give-requires c =
    let a = c.args in
    plan-sized a.shape a.challenge.now a.nodes.now a.count.now _ _ _ c.numbers_in-n.result (length-take-le c.numbers_in-n.result c.args.list.now (omega (arith, c.numbers_in-n.ensures.0, c.requires))) c.numbers_in-n.ensures.1 c.plan-a.ensures

pub returns : goal.returns
returns c =
    let a = c.args in
    rw c.give.ensures.0
    (plan-host a.shape a.challenge.now a.nodes.now a.count.now _ _ _ c.numbers_in-n.result (length-take-le c.numbers_in-n.result c.args.list.now (omega (arith, c.numbers_in-n.ensures.0, c.requires))) c.numbers_in-n.ensures.1 c.plan-a.ensures _ _ _
    c.put_list.ensures c.give.ensures.1)
