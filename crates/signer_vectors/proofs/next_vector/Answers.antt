-- The parts lent stand behind those of the vectors before; that each ends within its buffer answers the needs of its start and its end.
-- ---- where each part ends, and what is between its start and its end
use Prim.Native.Nat.{ℕ, ◌+◌, ◌*◌, ◌≤◌}
use mathlib.Core.Path.{◌≡◌, refl, ap, ◌∙◌}
use native.Mathlib.Omega.{arith}
use lib.ListN.{length}
use Rattle.spec.specs.Shapes.{leaf_commitment_bytes, hash_bytes, depth_of, entries_of}
use Rattle.vector.proofs.Buffers.{lent, lent-order, block-end, commitments-size, columns-size, commitments-end, columns-end}
use Rattle.vector.proofs.Fronts.{before_more}
use Rattle.signer_vectors.proofs.next_vector.Goals as goal
use Rattle.signer_vectors.proofs.next_vector.Goals.{After-columns_from-v_to}

lcs-size : (c : After-columns_from-v_to) → c.commitments_from-lcs_to.result ≡ c.commitments_from-lcs_from.result + leaf_commitment_bytes c.args.g.shape * entries_of c.args.g.shape c.args.i
lcs-size c = commitments-size _ _ _ _ c.commitments_from-lcs_from.ensures c.commitments_from-lcs_to.ensures

lcs-end : (c : After-columns_from-v_to) → c.commitments_from-lcs_to.result ≤ length c.args.lcs.now
lcs-end c = commitments-end c.args.g.shape c.requires.lent.0.job.shape c.args.i _ _ c.requires.lent.2 c.commitments_from-lcs_to.ensures c.requires.lcs_len.0

v-size : (c : After-columns_from-v_to) → c.columns_from-v_to.result ≡ c.columns_from-v_from.result + c.args.g.stretch.width * depth_of c.args.g.shape c.args.i
v-size c = columns-size _ _ _ _ _ c.columns_from-v_from.ensures c.columns_from-v_to.ensures

v-end : (c : After-columns_from-v_to) → c.columns_from-v_to.result ≤ length c.args.v.now
v-end c = columns-end c.args.g.shape c.requires.lent.0.job.shape c.args.g.stretch.width c.args.i _ _ c.requires.lent.2 c.columns_from-v_to.ensures c.requires.lcs_len.1

hashes-end : (c : After-columns_from-v_to) → c.hash_bytes-h.result * c.args.i + c.hash_bytes-h.result ≤ length c.args.hashes.now
hashes-end c =
    let g = c.args in
    let h = c.hash_bytes-h in
    let all : h.result * g.g.shape.tau ≡ hash_bytes g.g.shape * g.g.shape.tau = ap (λ (n : ℕ). n * g.g.shape.tau) h.ensures.0 in
    block-end h.result g.i g.g.shape.tau (length g.hashes.now) c.requires.lent.2 (let l = c.requires.lcs_len.2 in omega arith)

pub slice_bounds-convert-count : goal.slice_bounds-convert-count
slice_bounds-convert-count c = lent-order _ _ _ (lcs-size (goal.at.slice_bounds-convert-count c).After-columns_from-v_to)

pub slice_bounds-convert-start : goal.slice_bounds-convert-start
slice_bounds-convert-start c = lent-order _ _ _ (lcs-size (goal.at.slice_bounds-convert-start c).After-columns_from-v_to)

pub slice_bounds-convert-end : goal.slice_bounds-convert-end
slice_bounds-convert-end c = lcs-end (goal.at.slice_bounds-convert-end c).After-columns_from-v_to

pub slice_bounds-convert-count-2 : goal.slice_bounds-convert-count-2
slice_bounds-convert-count-2 c = lent-order _ _ _ (v-size (goal.at.slice_bounds-convert-count-2 c).After-columns_from-v_to)

pub slice_bounds-convert-start-2 : goal.slice_bounds-convert-start-2
slice_bounds-convert-start-2 c = lent-order _ _ _ (v-size (goal.at.slice_bounds-convert-start-2 c).After-columns_from-v_to)

pub slice_bounds-convert-end-2 : goal.slice_bounds-convert-end-2
slice_bounds-convert-end-2 c = v-end (goal.at.slice_bounds-convert-end-2 c).After-columns_from-v_to

pub overflow_mul-h : goal.overflow_mul-h
overflow_mul-h c = let e = hashes-end (goal.at.overflow_mul-h c).After-columns_from-v_to in omega arith

pub overflow_mul-h-2 : goal.overflow_mul-h-2
overflow_mul-h-2 c = let e = hashes-end (goal.at.overflow_mul-h-2 c).After-columns_from-v_to in omega arith

pub overflow_add-h : goal.overflow_add-h
overflow_add-h c = let e = hashes-end (goal.at.overflow_add-h c).After-columns_from-v_to in omega arith

pub slice_bounds-convert-end-3 : goal.slice_bounds-convert-end-3
slice_bounds-convert-end-3 c = hashes-end (goal.at.slice_bounds-convert-end-3 c).After-columns_from-v_to

pub convert-requires : goal.convert-requires
convert-requires c =
    let g = c.args in
    let h = c.hash_bytes-h in
    let p = (goal.at.convert-requires c).After-columns_from-v_to in record {
      lent = (c.requires.lent.0, c.requires.lent.1, c.requires.lent.2, c.requires.lent.3);
      lcs_len = (
        lent _ _ _ g.lcs.now (lcs-size p) (lcs-end p),
        lent _ _ _ g.v.now (v-size p) (v-end p),
        lent (h.result * g.i) _ h.result g.hashes.now refl (hashes-end p) ∙ h.ensures.0,
      );
    }

pub returns : goal.returns
returns c =
    let g = c.args in
    let s = g.g.shape in
    let i = g.i in
    let b = g.g.stretch.width in
    let ok = c.requires.lent.0.job.shape in
    let below = c.requires.lent.2 in
    let p = c.requires.lcs_len in
    let h = c.hash_bytes-h in
    let made = c.convert in
    let place = (goal.at.returns c).After-columns_from-v_to in record {
      total_after = made.ensures.total_after;
      before = before_more s b _ _ i _ _ _ g.lcs.now g.v.now g.hashes.now made.new.lcs made.new.cols made.new.hash _ _ _ c.commitments_from-lcs_from.ensures c.columns_from-v_from.ensures h.ensures.0
          (commitments-end s ok i _ _ below refl p.0) (columns-end s ok b i _ _ below refl p.1) (hashes-end place)
          (made.auto.lcs ∙ lent _ _ _ g.lcs.now (lcs-size place) (lcs-end place)) (made.auto.cols ∙ lent _ _ _ g.v.now (v-size place) (v-end place))
          (made.auto.hash ∙ lent (h.result * i) _ h.result g.hashes.now refl (hashes-end place)) made.ensures.converted;
    }
