-- What `add_bytes` ensures of the part lent, whose number is the hidden index.
use mathlib.Core.Path.{◌≡◌, refl, sym, ap, ◌∙◌, subst}
use Prim.Native.Nat.{ℕ, ◌+◌, ◌-◌, ◌*◌, ◌≤◌, ◌<◌}
use native.Mathlib.Omega.{arith}
use lib.ListN.{length, get_or}
use Rattle.spec.specs.declared.Shape.{Shape}
use Rattle.spec.specs.Bytes.{bit, part}
use Rattle.spec.specs.Shapes.{depth_of, corrections_bytes}
use Rattle.columns.specs.Columns.{Added}
use Rattle.vector.proofs.Buffers.{part-size, lent, lent-order, block-end, columns-size, columns-end}
use Rattle.verifier_vectors.proofs.Steps.{corrected, corrected-more}
use Rattle.verifier_vectors.proofs.correct_vector.Goals as goal
use Rattle.verifier_vectors.proofs.correct_vector.Goals.{After-columns_from-to}

correction-end : (s : Shape) (b i n : ℕ) → 1 ≤ i → i < s.tau → n ≡ corrections_bytes s b → b * (i - 1) + b ≤ n
unfolding corrections_bytes
correction-end s b i n h k e = block-end b (i - 1) (s.tau - 1) n (omega arith) (omega arith)

q-size : (c : After-columns_from-to) → c.columns_from-to.result ≡ c.columns_from-from.result + c.args.b * depth_of c.args.s c.args.i
q-size c = columns-size _ _ _ _ _ c.columns_from-from.ensures c.columns_from-to.ensures

q-end : (c : After-columns_from-to) → c.columns_from-to.result ≤ length c.args.q.now
q-end c = columns-end c.args.s c.requires.0 c.args.b c.args.i _ _ c.requires.2 c.columns_from-to.ensures c.requires.6

pub overflow_mul-at : goal.overflow_mul-at
overflow_mul-at c = let e = correction-end c.args.s c.args.b c.args.i _ c.requires.1 c.requires.2 c.requires.5 in omega arith

pub slice_bounds-add_bytes-count : goal.slice_bounds-add_bytes-count
slice_bounds-add_bytes-count c = lent-order _ _ _ (q-size (goal.at.slice_bounds-add_bytes-count c).After-columns_from-to)

pub slice_bounds-add_bytes-start : goal.slice_bounds-add_bytes-start
slice_bounds-add_bytes-start c = lent-order _ _ _ (q-size (goal.at.slice_bounds-add_bytes-start c).After-columns_from-to)

pub slice_bounds-add_bytes-end : goal.slice_bounds-add_bytes-end
slice_bounds-add_bytes-end c = q-end (goal.at.slice_bounds-add_bytes-end c).After-columns_from-to

pub overflow_add-at : goal.overflow_add-at
overflow_add-at c = let e = correction-end c.args.s c.args.b c.args.i _ c.requires.1 c.requires.2 c.requires.5 in omega arith

pub slice_bounds-add_bytes-end-2 : goal.slice_bounds-add_bytes-end-2
slice_bounds-add_bytes-end-2 c = correction-end c.args.s c.args.b c.args.i _ c.requires.1 c.requires.2 c.requires.5

pub add_bytes-requires : goal.add_bytes-requires
add_bytes-requires c =
    let g = c.args in
    let d = c.depth_of.ensures in
    (d.1, lent (g.b * (g.i - 1)) _ g.b g.corrections.now refl (correction-end c.args.s c.args.b c.args.i _ c.requires.1 c.requires.2 c.requires.5), lent _ _ _ g.q.now (q-size (goal.at.add_bytes-requires c).After-columns_from-to) (q-end (goal.at.add_bytes-requires c).After-columns_from-to) ∙ ap (λ (n : ℕ). g.b * n) (sym d.0))

pub returns : goal.returns
returns c row =
    let g = c.args in
    let s = g.s in
    let at = g.b * (g.i - 1) in
    let d = c.hidden_index-d in
    let v = c.columns_from-from.result in
    let w = c.columns_from-to.result in
    let made = c.add_bytes in
    corrected-more s g.b row g.ch.now g.corrections.now g.i v w g.q.now made.new.cols c.requires.2 c.columns_from-from.ensures (q-size (goal.at.returns c).After-columns_from-to) (q-end (goal.at.returns c).After-columns_from-to)
    (corrected s g.b g.ch.now g.corrections.now g.i d.result (part g.q.now v (w - v)) made.new.cols c.requires.1 d.ensures.0
    (subst (λ (n : ℕ). Added g.b (depth_of s g.i) (λ j p. bit j d.result * get_or (part g.corrections.now at n) p 0) (part g.q.now v (w - v)) made.new.cols) (part-size at g.b)
    (subst (λ (k : ℕ). Added g.b k (λ j p. bit j d.result * get_or (part g.corrections.now at (at + g.b - at)) p 0) (part g.q.now v (w - v)) made.new.cols) c.depth_of.ensures.0 made.ensures)))
