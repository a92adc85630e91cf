-- A limit that is broken refutes the facts of a shape; with all kept the depth of the deeper vectors decides.
use Prim.Native.Nat.{◌+◌, ◌-◌, ◌*◌, ◌≤◌}
use mathlib.Core.Path.{sym, ◌∙◌}
use mathlib.Core.Bool.{true≢false}
use native.Mathlib.Omega.{arith}
use native.Mathlib.Nat.{mul-le-mul}
use Rattle.spec.specs.Shapes.{level, shape_ok}
use Rattle.laws.proofs.Conjunctions.{refuted}
use Rattle.laws.proofs.Tests.{failed, passed}
use Rattle.planning_laws.proofs.LeafKindFacts.{kind-max, others-decide}
use Rattle.planning_laws.proofs.ShapeFacts.{deeper-is, shape-refused, rules-by-depth}
use Rattle.rules.proofs.is_shape.Goals as goal

pub returns-then-s-gt1 : goal.returns-then-s-gt1
returns-then-s-gt1 c = (let s = c.args.s in refuted (shape_ok s) (λ e. omega (arith, kind-max s e)))

pub returns-then-not-is_level : goal.returns-then-not-is_level
returns-then-not-is_level c = shape-refused c.args.s (λ f. true≢false (sym f.level-is ∙ failed c.is_level.ensures c.if-not-is_level.true))

pub returns-then-s-lt1 : goal.returns-then-s-lt1
returns-then-s-lt1 c = shape-refused c.args.s (λ f. omega arith)

pub returns-then-s-gt32 : goal.returns-then-s-gt32
returns-then-s-gt32 c = shape-refused c.args.s (λ f. omega arith)

pub returns-then-s-lt1-2 : goal.returns-then-s-lt1-2
returns-then-s-lt1-2 c = shape-refused c.args.s (λ f. omega arith)

pub returns-then-s-gt12 : goal.returns-then-s-gt12
returns-then-s-gt12 c = shape-refused c.args.s (λ f. omega arith)

pub returns-then-s-gt127 : goal.returns-then-s-gt127
returns-then-s-gt127 c = shape-refused c.args.s (λ f. omega arith)

pub returns-then-s-lt1-3 : goal.returns-then-s-lt1-3
returns-then-s-lt1-3 c = shape-refused c.args.s (λ f. omega arith)

pub returns-then-s-gt512 : goal.returns-then-s-gt512
returns-then-s-gt512 c = shape-refused c.args.s (λ f. omega arith)

pub overflow_mul-used : goal.overflow_mul-used
overflow_mul-used c =
    let s = c.args.s in
    let h : s.tau ≤ 32 = omega arith in
    let k : s.k ≤ 12 = omega arith in
    let p : s.tau * s.k ≤ 32 * 12 = mul-le-mul h k in
    omega arith

pub overflow_add-used : goal.overflow_add-used
overflow_add-used c =
    let s = c.args.s in
    let h : s.tau ≤ 32 = omega arith in
    let k : s.k ≤ 12 = omega arith in
    let p : s.tau * s.k ≤ 32 * 12 = mul-le-mul h k in
    omega arith

pub returns-then-n-used : goal.returns-then-n-used
unfolding level
returns-then-n-used c = shape-refused c.args.s (λ f. omega (arith, f.total))

pub returns-then-s-r : goal.returns-then-s-r
unfolding level
returns-then-s-r c = (let d = deeper-is c.args.s in shape-refused c.args.s (λ f. omega (arith, f.few)))

pub returns : goal.returns
unfolding level
returns c =
    let s = c.args.s in
    let d = deeper-is s in
    let l = passed c.is_level.ensures c.if-not-is_level.false in
    rules-by-depth s (s.level - (s.tau * s.k + s.w)) (omega arith) (omega arith) (omega arith) (omega arith) (omega arith) (omega arith) (omega arith) (omega arith) (omega arith) (omega arith) l
    ∙ others-decide s (omega (arith, c.if-s-gt1.false))
