use mathlib.Core.Path.{◌≡◌, refl, ◌∙◌, subst}
use Prim.Native.Nat.{ℕ}
use native.Mathlib.Omega.{arith}
use Rattle.planning_laws.proofs.ShapeFacts.{shape-facts}
use Rattle.verifier_vectors.specs.Corrections.{Corrected}
use Rattle.verifier_vectors.proofs.Steps.{corrected-start, corrected-all}
use Rattle.verifier_vectors.proofs.correct_vectors.Goals as goal

pub loop-i-init : goal.loop-i-init
loop-i-init c =
    let g = c.args in
    (omega arith, (shape-facts g.s c.requires.0).tau-pos, refl, λ row e. corrected-start g.s g.b row g.ch.now g.corrections.now c.requires.0 g.q.now c.requires.4 e)

pub correct_vector-requires : goal.correct_vector-requires
correct_vector-requires c =
    let p = c.requires in
    let l = c.loop-i.invariant in
    (p.0, l.0, c.loop-i-test.true, p.1, p.2, p.3, l.2 ∙ p.4)

pub overflow_step-i : goal.overflow_step-i
overflow_step-i c = omega arith

pub loop-i-smaller : goal.loop-i-smaller
loop-i-smaller c = omega arith

pub loop-i-preserved : goal.loop-i-preserved
loop-i-preserved c =
    let l = c.loop-i.invariant in
    let t = c.loop-i-test.true in
    (omega arith, omega arith, c.correct_vector.auto.q ∙ l.2, λ row e. c.correct_vector.ensures row (l.3 row e))

pub shape_of-q : goal.shape_of-q
shape_of-q c = c.loop-i.invariant.2

pub returns : goal.returns
returns c row e =
    let g = c.args in
    let l = c.loop-i in
    let all : l.i ≡ g.s.tau = (let i = l.invariant.1 in let out = c.loop-i-test.false in omega arith) in
    corrected-all g.s g.b row g.ch.now g.corrections.now l.q (subst (λ (n : ℕ). Corrected g.s g.b row g.ch.now g.corrections.now n l.q) all (l.invariant.3 row e))
