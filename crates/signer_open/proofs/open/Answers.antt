-- With a number nothing is written; where every test is passed, the opening is: the call's own list has room for every count that is let through.
use mathlib.Core.Path.{◌≡◌, refl, ◌∙◌}
use native.Mathlib.Omega.{arith}
use lib.ListN.{length, length-replicate}
use Rattle.spec.specs.Shapes.{opening_bytes}
use Rattle.planning_laws.proofs.ShapeFacts.{shape-facts}
use Rattle.refusals.proofs.Numbers.{plan-accepted}
use Rattle.refusals.proofs.Outcomes.{numbered}
use Rattle.opening.proofs.Slots.{in_tree, opening_of_lem}
use Rattle.signer_open.proofs.Answers.{refused, written}
use Rattle.signer_open.proofs.open.Goals as goal

pub test_open-requires : goal.test_open-requires
test_open-requires c = refl

pub write_hidden-requires : goal.write_hidden-requires
unfolding opening_bytes
write_hidden-requires c =
    let p = plan-accepted _ _ _ _ c.in-Ok.ensures.0 refl in
    let l = p.1 in
    let opening = l.1.1.1.0 in
    (p.0, l.0, l.1.1.0, omega arith)

pub write_slots-requires : goal.write_slots-requires
write_slots-requires c =
    let answer = c.in-Ok.ensures in
    let p = plan-accepted _ _ _ _ answer.0 refl in
    let l = p.1 in
    let f = shape-facts _ p.0 in
    let room : length c.test_open.new.nodes ≡ 512 = c.test_open.auto.nodes in
    let front = answer.1 refl (rw length-replicate (omega arith)) in
    let within = p.3 in
    let low = in_tree _ _ _ _ p.2 front p.0 in
    record { s_value = (p.0, l.1.0, c.write_hidden.auto.out ∙ l.1.1.1.0); n_le_t = (omega arith, omega arith, λ m h. low m (omega arith)) }

pub returns-in-Ok : goal.returns-in-Ok
returns-in-Ok c =
    let answer = c.in-Ok.ensures in
    let p = plan-accepted _ _ _ _ answer.0 refl in
    let f = shape-facts _ p.0 in
    let front = answer.1 refl (rw length-replicate (omega arith)) in
    let made = c.write_slots.ensures ∙ opening_of_lem _ _ _ _ p.2 front _ _ _ c.write_hidden.ensures in
    written _ _ c.resolve-s.ensures _ _ _ _ _ answer.0 _ refl made

pub returns-in-Err : goal.returns-in-Err
returns-in-Err c = rw c.from.ensures (refused _ _ c.resolve-s.ensures _ _ _ _ _ c.in-Err.ensures.0 (numbered _))
