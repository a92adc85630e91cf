use mathlib.Core.Path.{◌≡◌, sym, ◌∙◌, subst}
use Prim.Native.Nat.{ℕ}
use native.Mathlib.Nat.{le_refl}
use native.Mathlib.Omega.{arith}
use Rattle.planning_laws.proofs.ShapeFacts.{shape-facts}
use Rattle.job.specs.Jobs.{entry_byte, given_commitment}
use Rattle.vector.specs.Vectors.{Before}
use Rattle.vector.proofs.Buffers.{all-columns}
use Rattle.vector.proofs.Numbers.{width_small}
use Rattle.vector.proofs.Fronts.{before-none, before-all}
use Rattle.verifier_vector.specs.Vector.{uncorrected}
use Rattle.verifier_vectors.proofs.write_vectors.Goals as goal

pub loop-i-init : goal.loop-i-init
loop-i-init c = (let p = c.requires in (omega arith, p.lcs_len.0, p.lcs_len.1, p.lcs_len.2, before-none _ _ _ _ _ _ _))

pub hidden_index-requires : goal.hidden_index-requires
hidden_index-requires c = (c.requires.lent.0.job.shape, c.requires.lent.2, c.loop-i-test.true)

pub next_vector-requires : goal.next_vector-requires
next_vector-requires c =
    let p = c.requires in
    let l = c.loop-i.invariant in
    record { lent = (p.lent.0, p.lent.1, c.loop-i-test.true, c.hidden_index.ensures.1, p.lent.3); lcs_len = (l.1, l.2, l.3) }

pub overflow_step-i : goal.overflow_step-i
overflow_step-i c = let t = c.loop-i-test.true in let f = (shape-facts c.args.g.shape c.requires.lent.0.job.shape).tau-max in omega arith

pub loop-i-smaller : goal.loop-i-smaller
loop-i-smaller c = omega arith

pub loop-i-preserved : goal.loop-i-preserved
loop-i-preserved c =
    let l = c.loop-i.invariant in
    let made = c.next_vector in
    let t = c.loop-i-test.true in
    (omega arith, made.auto.lcs ∙ l.1, made.auto.q ∙ l.2, made.auto.hashes ∙ l.3, made.ensures c.args.ch.now c.hidden_index.ensures.0 l.4)

pub columns_from-used-requires : goal.columns_from-used-requires
columns_from-used-requires c = (let job = c.requires.lent.0.job in (job.shape, le_refl _, width_small _ job.row))

pub clear_from-requires : goal.clear_from-requires
clear_from-requires c =
    let k = all-columns c.args.g.shape c.requires.lent.0.job.shape c.args.g.stretch.width in
    let used = c.columns_from-used.ensures in
    let long = c.loop-i.invariant.2 in
    omega arith

pub shape_of-lcs : goal.shape_of-lcs
shape_of-lcs c = c.loop-i.invariant.1 ∙ sym c.requires.lcs_len.0

pub shape_of-q : goal.shape_of-q
shape_of-q c = c.clear_from.auto.out ∙ c.loop-i.invariant.2 ∙ sym c.requires.lcs_len.1

pub shape_of-hashes : goal.shape_of-hashes
shape_of-hashes c = c.loop-i.invariant.3 ∙ sym c.requires.lcs_len.2

pub returns : goal.returns
returns c =
    let g = c.args.g in
    let l = c.loop-i in
    let out = c.loop-i-test.false in
    let all : l.i ≡ g.shape.tau = (let i = l.invariant.0 in omega arith) in
    let lc = given_commitment g c.args.ch.now c.args.opening.now c.args.tree.now in
    let col = uncorrected g.shape g.stretch.width (entry_byte g c.args.tree.now) c.args.ch.now in
    let whole = before-all g.shape g.stretch.width lc col c.requires.lent.0.job.shape _ l.lcs l.q _ l.hashes l.invariant.1 l.invariant.2 l.invariant.3 c.columns_from-used.ensures c.clear_from.ensures
    (subst (λ (n : ℕ). Before g.shape g.stretch.width lc col n l.lcs l.q l.hashes) all l.invariant.4) in
    record { lcs_after = whole.0; q_after = whole.1; hashes_after = whole.2 }
