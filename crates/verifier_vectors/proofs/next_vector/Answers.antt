-- The parts lent stand behind those of the vectors before; that each ends within its buffer answers the needs of its start and its end.
-- ---- where each part ends, and what is between its start and its end
use mathlib.Core.Path.{◌≡◌, refl, ap, ap₂, ◌∙◌}
use Prim.Native.Nat.{ℕ, ◌+◌, ◌*◌, ◌≤◌}
use native.Mathlib.Omega.{arith}
use lib.ListN.{length}
use Rattle.spec.specs.Bytes.{part}
use Rattle.spec.specs.Shapes.{leaf_commitment_bytes, hash_bytes, depth_of, entries_of}
use Rattle.vector.proofs.Buffers.{part-size, lent, lent-order, block-end, commitments-size, columns-size, commitments-end, columns-end}
use Rattle.vector.proofs.Fronts.{before_more}
use Rattle.verifier_vectors.proofs.next_vector.Goals as goal
use Rattle.verifier_vectors.proofs.next_vector.Goals.{After-columns_from-q_to, After-hidden_from-at}

-- the hidden leaf commitment lies within the opening
opening-end : (c : After-hidden_from-at) → c.hidden_from-at.result + c.commitment_bytes-w.result ≤ length c.args.opening.now
opening-end c = (let w = c.commitment_bytes-w.ensures.0 in let at = c.hidden_from-at.ensures.1 in let l = c.requires.lent.4 in omega arith)

lcs-size : (c : After-columns_from-q_to) → c.commitments_from-lcs_to.result ≡ c.commitments_from-lcs_from.result + leaf_commitment_bytes c.args.g.shape * entries_of c.args.g.shape c.args.x.vector
lcs-size c = commitments-size _ _ _ _ c.commitments_from-lcs_from.ensures c.commitments_from-lcs_to.ensures

lcs-end : (c : After-columns_from-q_to) → c.commitments_from-lcs_to.result ≤ length c.args.lcs.now
lcs-end c = commitments-end c.args.g.shape c.requires.lent.0.job.shape c.args.x.vector _ _ c.requires.lent.2 c.commitments_from-lcs_to.ensures c.requires.lcs_len.0

q-size : (c : After-columns_from-q_to) → c.columns_from-q_to.result ≡ c.columns_from-q_from.result + c.args.g.stretch.width * depth_of c.args.g.shape c.args.x.vector
q-size c = columns-size _ _ _ _ _ c.columns_from-q_from.ensures c.columns_from-q_to.ensures

q-end : (c : After-columns_from-q_to) → c.columns_from-q_to.result ≤ length c.args.q.now
q-end c = columns-end c.args.g.shape c.requires.lent.0.job.shape c.args.g.stretch.width c.args.x.vector _ _ c.requires.lent.2 c.columns_from-q_to.ensures c.requires.lcs_len.1

hashes-end : (c : After-columns_from-q_to) → c.hash_bytes-h.result * c.args.x.vector + c.hash_bytes-h.result ≤ length c.args.hashes.now
hashes-end c =
    let g = c.args in
    let s = g.g.shape in
    let h = c.hash_bytes-h in
    let all : h.result * s.tau ≡ hash_bytes s * s.tau = ap (λ (n : ℕ). n * s.tau) h.ensures.0 in
    block-end h.result g.x.vector s.tau (length g.hashes.now) c.requires.lent.2 (let l = c.requires.lcs_len.2 in omega arith)

pub overflow_add-at : goal.overflow_add-at
overflow_add-at c = let e = opening-end (goal.at.overflow_add-at c).After-hidden_from-at in omega arith

pub slice_bounds-convert-end : goal.slice_bounds-convert-end
slice_bounds-convert-end c = opening-end (goal.at.slice_bounds-convert-end c).After-hidden_from-at

pub slice_bounds-convert-count-2 : goal.slice_bounds-convert-count-2
slice_bounds-convert-count-2 c = lent-order _ _ _ (lcs-size (goal.at.slice_bounds-convert-count-2 c).After-columns_from-q_to)

pub slice_bounds-convert-start-2 : goal.slice_bounds-convert-start-2
slice_bounds-convert-start-2 c = lent-order _ _ _ (lcs-size (goal.at.slice_bounds-convert-start-2 c).After-columns_from-q_to)

pub slice_bounds-convert-end-2 : goal.slice_bounds-convert-end-2
slice_bounds-convert-end-2 c = lcs-end (goal.at.slice_bounds-convert-end-2 c).After-columns_from-q_to

pub slice_bounds-convert-count-3 : goal.slice_bounds-convert-count-3
slice_bounds-convert-count-3 c = lent-order _ _ _ (q-size (goal.at.slice_bounds-convert-count-3 c).After-columns_from-q_to)

pub slice_bounds-convert-start-3 : goal.slice_bounds-convert-start-3
slice_bounds-convert-start-3 c = lent-order _ _ _ (q-size (goal.at.slice_bounds-convert-start-3 c).After-columns_from-q_to)

pub slice_bounds-convert-end-3 : goal.slice_bounds-convert-end-3
slice_bounds-convert-end-3 c = q-end (goal.at.slice_bounds-convert-end-3 c).After-columns_from-q_to

pub overflow_mul-h : goal.overflow_mul-h
overflow_mul-h c = let e = hashes-end (goal.at.overflow_mul-h c).After-columns_from-q_to in omega arith

pub overflow_mul-h-2 : goal.overflow_mul-h-2
overflow_mul-h-2 c = let e = hashes-end (goal.at.overflow_mul-h-2 c).After-columns_from-q_to in omega arith

pub overflow_add-h : goal.overflow_add-h
overflow_add-h c = let e = hashes-end (goal.at.overflow_add-h c).After-columns_from-q_to in omega arith

pub slice_bounds-convert-end-4 : goal.slice_bounds-convert-end-4
slice_bounds-convert-end-4 c = hashes-end (goal.at.slice_bounds-convert-end-4 c).After-columns_from-q_to

pub convert-requires : goal.convert-requires
convert-requires c =
    let g = c.args in
    let i = g.x.vector in
    let w = c.commitment_bytes-w in
    let at = c.hidden_from-at.result in
    let h = c.hash_bytes-h in
    let p = c.requires.lent in
    let place = (goal.at.convert-requires c).After-columns_from-q_to in record {
      lent = (p.0, p.1, p.2, p.3, lent at _ w.result g.opening.now refl (opening-end (goal.at.convert-requires c).After-hidden_from-at) ∙ w.ensures.0);
      lcs_len = (
        lent _ _ _ g.lcs.now (lcs-size place) (lcs-end place),
        lent _ _ _ g.q.now (q-size place) (q-end place),
        lent (h.result * i) _ h.result g.hashes.now refl (hashes-end place) ∙ h.ensures.0,
      );
    }

pub returns : goal.returns
returns c ch hd =
    let g = c.args in
    let s = g.g.shape in
    let i = g.x.vector in
    let b = g.g.stretch.width in
    let ok = c.requires.lent.0.job.shape in
    let below = c.requires.lent.2 in
    let p = c.requires.lcs_len in
    let w = c.commitment_bytes-w in
    let at = c.hidden_from-at in
    let h = c.hash_bytes-h in
    let opening = g.opening.now in
    let made = c.convert in
    let place = (goal.at.returns c).After-columns_from-q_to in
    before_more s b _ _ i _ _ _ g.lcs.now g.q.now g.hashes.now made.new.lcs made.new.cols made.new.hash _ _ _ c.commitments_from-lcs_from.ensures c.columns_from-q_from.ensures h.ensures.0
    (commitments-end s ok i _ _ below refl p.0) (columns-end s ok b i _ _ below refl p.1) (hashes-end place)
    (made.auto.lcs ∙ lent _ _ _ g.lcs.now (lcs-size place) (lcs-end place)) (made.auto.cols ∙ lent _ _ _ g.q.now (q-size place) (q-end place))
    (made.auto.hash ∙ lent (h.result * i) _ h.result g.hashes.now refl (hashes-end place))
    (made.ensures ch opening hd (ap (part opening at.result) (part-size at.result w.result) ∙ ap₂ (part opening) at.ensures.0 w.ensures.0))
