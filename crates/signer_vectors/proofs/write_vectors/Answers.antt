use Prim.Native.Nat.{ℕ, ◌+◌, ◌-◌, ◌*◌, ◌≤◌, ◌<◌}
use mathlib.Core.Path.{◌≡◌, refl, sym, ap, ◌∙◌, subst}
use native.Mathlib.Nat.{mul-zero, le_refl}
use native.Mathlib.Omega.{arith}
use lib.ListN.{length, take}
use Rattle.spec.specs.Bytes.{concat}
use Rattle.spec.specs.Shapes.{corrections_bytes}
use Rattle.spec.specs.Signer.{signer_column, correction, corrections}
use Rattle.laws.proofs.Concat.{mul-limit}
use Rattle.planning_laws.proofs.ShapeFacts.{shape-facts}
use Rattle.job.specs.Jobs.{entry_commitment, entry_byte}
use Rattle.vector.specs.Vectors.{Before}
use Rattle.vector.proofs.Buffers.{lent, block-end, put_all, all-columns}
use Rattle.vector.proofs.Numbers.{width_small}
use Rattle.vector.proofs.Fronts.{before-none, before-all}
use Rattle.signer_vectors.proofs.Steps.{u-of, u-length, correction-more}
use Rattle.signer_vectors.proofs.write_vectors.Goals as goal
use Rattle.signer_vectors.proofs.write_vectors.Goals.{In-loop-j}

correction-end : (c : In-loop-j) → c.args.g.stretch.width * c.loop-j.j + c.args.g.stretch.width ≤ length c.loop-j.corrections
unfolding corrections_bytes
correction-end c =
    let s = c.args.g.shape in
    let t = c.loop-j-test.true in
    let l = c.loop-j.invariant.3 in
    block-end c.args.g.stretch.width c.loop-j.j (s.tau - 1) _ t (omega arith)

correction-small : (c : In-loop-j) → c.args.g.stretch.width * c.loop-j.j + c.args.g.stretch.width ≤ 8192 * 32 + 8192
correction-small c =
    let f = shape-facts c.args.g.shape c.requires.lent.0.job.shape in
    let w = width_small c.args.g.stretch c.requires.lent.0.job.row in
    let j : c.loop-j.j ≤ 32 = (let t = c.loop-j-test.true in let m = f.tau-max in omega arith) in
    let m = mul-limit c.args.g.stretch.width c.loop-j.j 8192 32 w j in
    omega arith

pub overflow_sub-others : goal.overflow_sub-others
overflow_sub-others c = (let f = shape-facts c.args.g.shape c.requires.lent.0.job.shape in omega arith)

pub next_vector-requires : goal.next_vector-requires
next_vector-requires c =
    let p = c.requires in
    let f = shape-facts c.args.g.shape p.lent.0.job.shape in
    record { lent = (p.lent.0, p.lent.1, f.tau-pos, c.clear_from.auto.out ∙ p.u_len.0); lcs_len = (p.lent.2, p.u_len.1, p.lent.3) }

pub loop-j-init : goal.loop-j-init
unfolding concat
loop-j-init c =
    let g = c.args.g in
    let p = c.requires in
    let first = c.next_vector in (
      omega arith,
      first.auto.lcs ∙ p.lent.2,
      first.auto.v ∙ p.u_len.1,
      p.u_len.2,
      first.auto.hashes ∙ p.lent.3,
      u-of g.shape g.stretch.width (entry_byte g c.args.tree.now) _ _ _ c.clear_from.ensures first.ensures.total_after,
      ap (λ (m : ℕ). take m c.args.corrections.now) (mul-zero g.stretch.width),
      first.ensures.before (before-none _ _ _ _ _ _ _),
    )

pub overflow_mul-at : goal.overflow_mul-at
overflow_mul-at c = let m = correction-small (goal.at.overflow_mul-at c).In-loop-j in omega arith

pub copy_part-requires : goal.copy_part-requires
copy_part-requires c =
    let l = c.loop-j in
    (omega (arith, u-length _ _ _ _ l.invariant.5), correction-end (goal.at.copy_part-requires c).In-loop-j)

pub overflow_add-j : goal.overflow_add-j
overflow_add-j c = let t = c.loop-j-test.true in omega arith

pub overflow_add-at : goal.overflow_add-at
overflow_add-at c = let m = correction-small (goal.at.overflow_add-at c).In-loop-j in omega arith

pub slice_bounds-next_vector-end : goal.slice_bounds-next_vector-end
slice_bounds-next_vector-end c = (let e = correction-end (goal.at.slice_bounds-next_vector-end c).In-loop-j in let k = c.copy_part.auto.dst in omega arith)

pub next_vector-requires-in-loop-j : goal.next_vector-requires-in-loop-j
next_vector-requires-in-loop-j c =
    let p = c.requires in
    let l = c.loop-j in
    let b = c.args.g.stretch.width in
    let below : l.j + 1 < c.args.g.shape.tau = (let t = c.loop-j-test.true in omega arith) in
    record { lent = (p.lent.0, p.lent.1, below, lent (b * l.j) (b * l.j + b) b _ refl (let e = correction-end (goal.at.next_vector-requires-in-loop-j c).In-loop-j in let k = c.copy_part.auto.dst in omega arith)); lcs_len = (l.invariant.1, l.invariant.2, l.invariant.4) }

pub overflow_step-j : goal.overflow_step-j
overflow_step-j c = let t = c.loop-j-test.true in let f = (shape-facts c.args.g.shape c.requires.lent.0.job.shape).tau-max in omega arith

pub loop-j-smaller : goal.loop-j-smaller
loop-j-smaller c = let t = c.loop-j-test.true in omega arith

pub loop-j-preserved : goal.loop-j-preserved
loop-j-preserved c =
    let g = c.args.g in
    let l = c.loop-j in
    let copy = c.copy_part in
    let made = c.next_vector-in-loop-j in
    let t = c.loop-j-test.true in (
      omega arith,
      made.auto.lcs ∙ l.invariant.1,
      made.auto.v ∙ l.invariant.2,
      omega (arith, copy.auto.dst, l.invariant.3),
      made.auto.hashes ∙ l.invariant.4,
      l.invariant.5,
      correction-more g.shape g.stretch.width (entry_byte g c.args.tree.now) l.j _ l.corrections copy.new.dst _ _ l.invariant.5 (correction-end (goal.at.loop-j-preserved c).In-loop-j) (u-length _ _ _ _ l.invariant.5) copy.ensures made.ensures.total_after l.invariant.6,
      made.ensures.before l.invariant.7,
    )

pub columns_from-used-requires : goal.columns_from-used-requires
columns_from-used-requires c = (let job = c.requires.lent.0.job in (job.shape, le_refl _, width_small _ job.row))

pub clear_from-requires-2 : goal.clear_from-requires-2
clear_from-requires-2 c =
    let k = all-columns c.args.g.shape c.requires.lent.0.job.shape c.args.g.stretch.width in
    let used = c.columns_from-used.ensures in
    let long = c.loop-j.invariant.2 in
    omega arith

pub shape_of-lcs : goal.shape_of-lcs
shape_of-lcs c = c.loop-j.invariant.1 ∙ sym c.requires.lent.2

pub shape_of-u : goal.shape_of-u
shape_of-u c = c.next_vector.auto.total ∙ c.clear_from.auto.out

pub shape_of-v : goal.shape_of-v
shape_of-v c = c.clear_from-2.auto.out ∙ c.loop-j.invariant.2 ∙ sym c.requires.u_len.1

pub shape_of-corrections : goal.shape_of-corrections
shape_of-corrections c = c.loop-j.invariant.3 ∙ sym c.requires.u_len.2

pub shape_of-hashes : goal.shape_of-hashes
shape_of-hashes c = c.loop-j.invariant.4 ∙ sym c.requires.lent.3

pub returns : goal.returns
unfolding corrections_bytes corrections
returns c =
    let g = c.args.g in
    let s = g.shape in
    let b = g.stretch.width in
    let row = entry_byte g c.args.tree.now in
    let l = c.loop-j in
    let out = c.loop-j-test.false in
    let f = shape-facts s c.requires.lent.0.job.shape in
    let rest : l.j ≡ s.tau - 1 = (let i = l.invariant.0 in omega arith) in
    let all : l.j + 1 ≡ s.tau = omega arith in
    let lc = entry_commitment g c.args.tree.now in
    let whole = before-all s b lc (signer_column s b row) c.requires.lent.0.job.shape _ l.lcs l.v _ l.hashes l.invariant.1 l.invariant.2 l.invariant.4 c.columns_from-used.ensures c.clear_from-2.ensures
    (subst (λ (n : ℕ). Before s b lc (signer_column s b row) n l.lcs l.v l.hashes) all l.invariant.7) in record { lcs_after = whole.0; u_after = l.invariant.5; v_after = whole.1; corrections_after = put_all (λ i. correction s b row (i + 1)) (b * (s.tau - 1)) (s.tau - 1) l.corrections l.invariant.3 (subst (λ (n : ℕ). take (b * n) l.corrections ≡ concat n (λ i. correction s b row (i + 1))) rest l.invariant.6); hashes_after = whole.2 }
