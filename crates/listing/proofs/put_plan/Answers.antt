-- The laws of `Planned` say what is printed of a plan, refused or let through; the part that is lent has T elements unless T is over 512.
use mathlib.Core.Path.{◌≡◌, sym, ap, ◌∙◌}
use mathlib.Core.List.{List}
use Prim.Native.Nat.{ℕ, ◌≤◌, min}
use native.Mathlib.Omega.{arith}
use lib.ListN.{length, take}
use lib.Seq.{length-take-le, length_front}
use Rattle.spec.specs.declared.Shape.{Shape}
use Rattle.spec.specs.declared.Answer.{Answer}
use Rattle.spec.specs.Shapes.{resolved}
use Rattle.spec.specs.Calls.{Plan}
use Rattle.listing.proofs.Planned.{Printed, printed}
use Rattle.listing.proofs.put_plan.Goals as goal

-- the part of a list of 512 numbers that is lent has T elements unless T is over 512
known : (shape : Shape) (ch nodes after : List ℕ) (r : Answer) (s : Shape) (t : ℕ) → s ≡ resolved shape → t ≡ min s.t 512 → 512 ≤ length nodes
    → Plan shape ch (take t nodes) after r → shape.level ≡ 128 → Printed shape ch after r
known shape ch nodes after r s t e m room plan level =
    let same : (resolved shape).t ≡ s.t = ap (λ (x : Shape). x.t) (sym e) in
    printed shape ch (take t nodes) after r plan level (λ h. length-take-le t nodes (omega arith) ∙ (let z : t ≡ s.t = omega arith in z) ∙ sym same)

pub slice_bounds-plan-end-2 : goal.slice_bounds-plan-end-2
slice_bounds-plan-end-2 c = sym (length-take-le c.min-t.result c.args.nodes.now (omega (arith, c.min-t.ensures, c.requires.1)))

pub put_refused-requires : goal.put_refused-requires
put_refused-requires c = (omega (arith, (known c.args.shape c.args.challenge.now c.args.nodes.now c.plan-answer.new.nodes c.plan-answer.result c.resolve-s.result c.min-t.result c.resolve-s.ensures c.min-t.ensures c.requires.1 c.plan-answer.ensures c.requires.2).small), omega arith)

pub returns-then-answer-ne0 : goal.returns-then-answer-ne0
returns-then-answer-ne0 c = rw ((known c.args.shape c.args.challenge.now c.args.nodes.now c.plan-answer.new.nodes c.plan-answer.result c.resolve-s.result c.min-t.result c.resolve-s.ensures c.min-t.ensures c.requires.1 c.plan-answer.ensures c.requires.2).refused c.if-answer-ne0.true) at c.put_refused.ensures

pub slice_bounds-put_nodes-end : goal.slice_bounds-put_nodes-end
slice_bounds-put_nodes-end c =
    omega (
      arith,
      length_front c.args.nodes.now c.plan-answer.new.nodes c.min-t.result c.plan-answer.auto.nodes,
      ((known c.args.shape c.args.challenge.now c.args.nodes.now c.plan-answer.new.nodes c.plan-answer.result c.resolve-s.result c.min-t.result c.resolve-s.ensures c.min-t.ensures c.requires.1 c.plan-answer.ensures c.requires.2).listed c.if-answer-ne0.false).most,
      c.requires.1,
    )

pub slice_bounds-put_nodes-end-2 : goal.slice_bounds-put_nodes-end-2
slice_bounds-put_nodes-end-2 c = (let s = (known c.args.shape c.args.challenge.now c.args.nodes.now c.plan-answer.new.nodes c.plan-answer.result c.resolve-s.result c.min-t.result c.resolve-s.ensures c.min-t.ensures c.requires.1 c.plan-answer.ensures c.requires.2).listed c.if-answer-ne0.false in sym (ap length (s.front _) ∙ s.size))

pub put_nodes-requires : goal.put_nodes-requires
put_nodes-requires c =
    let s = (known c.args.shape c.args.challenge.now c.args.nodes.now c.plan-answer.new.nodes c.plan-answer.result c.resolve-s.result c.min-t.result c.resolve-s.ensures c.min-t.ensures c.requires.1 c.plan-answer.ensures c.requires.2).listed c.if-answer-ne0.false in
    rw s.front (omega (arith, s.size, s.most), omega (arith, s.size, s.most), λ m. omega (arith, s.small m))

pub returns : goal.returns
returns c =
    let s = (known c.args.shape c.args.challenge.now c.args.nodes.now c.plan-answer.new.nodes c.plan-answer.result c.resolve-s.result c.min-t.result c.resolve-s.ensures c.min-t.ensures c.requires.1 c.plan-answer.ensures c.requires.2).listed c.if-answer-ne0.false in
    rw (s.front, s.text) at c.put_nodes.ensures
