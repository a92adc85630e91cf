-- Each part lent ends where the next vector's begins, and what is written is the decommitment of the vector.
-- ---- where each part ends, and what is between its start and its end
use mathlib.Core.Path.{◌≡◌, refl, sym, ap, ◌∙◌}
use Prim.Native.Nat.{ℕ, ◌+◌, ◌-◌, ◌*◌, ◌^◌, ◌≤◌}
use native.Mathlib.Omega.{arith}
use lib.ListN.{length}
use Rattle.spec.specs.Shapes.{depth_of, entries_of}
use Rattle.spec.specs.Version1.{decommitment}
use Rattle.laws.proofs.Concat.{mul-limit}
use Rattle.v1_opening.proofs.Parts.{lent, put-behind, tree-part, opening-part, leaf-part, is-decommitment}
use Rattle.v1_opening.proofs.write_vector.Goals as goal
use Rattle.v1_opening.proofs.write_vector.Goals.{After-decommitment_from-end, After-entry_of, After-first_node-2}

tree : (c : After-first_node-2) →
    (c.node_bytes-n.result * c.first_node-2.result ≡ c.node_bytes-n.result * c.first_node.result + c.node_bytes-n.result * (2 * 2 ^ c.depth_of-d.result - 1))
    × (c.node_bytes-n.result * c.first_node-2.result ≤ length c.args.trees.now)
tree c =
    tree-part c.args.s c.requires.s_value.0 c.args.i c.requires.s_value.3 _ _ _ _ _ c.node_bytes-n.ensures.0 c.depth_of-d.ensures.0 c.first_node.ensures.0 c.first_node-2.ensures.0 c.requires.trees_len.0

leaf : (c : After-entry_of) → 2 * c.node_bytes-n.result * c.entry_of.result + 2 * c.node_bytes-n.result ≤ length c.args.lcs.now
leaf c =
    leaf-part c.args.s _ _ _ c.node_bytes-n.ensures.0 c.entry_of.ensures.1 c.requires.trees_len.1

place : (c : After-decommitment_from-end) →
    (c.decommitment_from-at.result + (c.node_bytes-n.result * c.depth_of-d.result + 2 * c.node_bytes-n.result) ≡ c.decommitment_from-end.result)
    × (c.decommitment_from-end.result ≤ length c.args.opening.now)
place c =
    opening-part c.args.s c.requires.s_value.0 c.args.i c.requires.s_value.3 _ _ _ _ _ c.requires.s_value.1 c.node_bytes-n.ensures.0 c.depth_of-d.ensures.0 c.decommitment_from-at.ensures.0 c.decommitment_from-end.ensures.0 c.requires.trees_len.2

pub overflow_mul-from : goal.overflow_mul-from
overflow_mul-from c =
    let n = c.node_bytes-n in
    let m = mul-limit n.result c.first_node.result 32 172032 n.ensures.2 c.first_node.ensures.1 in
    omega arith

pub overflow_mul-to : goal.overflow_mul-to
overflow_mul-to c = let t = (tree (goal.at.overflow_mul-to c).After-first_node-2).1 in omega arith

pub overflow_mul-lc-2 : goal.overflow_mul-lc-2
overflow_mul-lc-2 c = let l = leaf (goal.at.overflow_mul-lc-2 c).After-entry_of in omega arith

pub overflow_add-hidden : goal.overflow_add-hidden
overflow_add-hidden c = let l = leaf (goal.at.overflow_add-hidden c).After-entry_of in omega arith

pub slice_bounds-hidden-end : goal.slice_bounds-hidden-end
slice_bounds-hidden-end c = leaf (goal.at.slice_bounds-hidden-end c).After-entry_of

pub slice_bounds-write_decommitment-count : goal.slice_bounds-write_decommitment-count
slice_bounds-write_decommitment-count c = let t = (tree (goal.at.slice_bounds-write_decommitment-count c).After-first_node-2).0 in omega arith

pub slice_bounds-write_decommitment-start : goal.slice_bounds-write_decommitment-start
slice_bounds-write_decommitment-start c = let t = (tree (goal.at.slice_bounds-write_decommitment-start c).After-first_node-2).0 in omega arith

pub slice_bounds-write_decommitment-end : goal.slice_bounds-write_decommitment-end
slice_bounds-write_decommitment-end c = (tree (goal.at.slice_bounds-write_decommitment-end c).After-first_node-2).1

pub slice_bounds-write_decommitment-count-2 : goal.slice_bounds-write_decommitment-count-2
slice_bounds-write_decommitment-count-2 c = let p = (place (goal.at.slice_bounds-write_decommitment-count-2 c).After-decommitment_from-end).0 in omega arith

pub slice_bounds-write_decommitment-start-2 : goal.slice_bounds-write_decommitment-start-2
slice_bounds-write_decommitment-start-2 c = let p = (place (goal.at.slice_bounds-write_decommitment-start-2 c).After-decommitment_from-end).0 in omega arith

pub slice_bounds-write_decommitment-end-2 : goal.slice_bounds-write_decommitment-end-2
slice_bounds-write_decommitment-end-2 c = (place (goal.at.slice_bounds-write_decommitment-end-2 c).After-decommitment_from-end).1

pub write_decommitment-requires : goal.write_decommitment-requires
unfolding entries_of
write_decommitment-requires c =
    let g = c.args in
    let n = c.node_bytes-n in
    let d = c.depth_of-d in
    let j = c.hidden_index-j in
    let t = tree (goal.at.write_decommitment-requires c).After-first_node-2 in
    let p = place (goal.at.write_decommitment-requires c).After-decommitment_from-end in
    let pow : 2 ^ d.result ≡ 2 ^ depth_of g.s g.i = ap (λ (m : ℕ). 2 ^ m) d.ensures.0 in
    let low = j.ensures.1 in
    (n.ensures.2, d.ensures.1, omega arith, lent _ _ _ g.trees.now t.0 t.1, lent _ _ _ g.lcs.now refl (leaf (goal.at.write_decommitment-requires c).After-entry_of), lent _ _ _ g.opening.now (sym p.0) p.1)

pub returns : goal.returns
returns c = λ front.
    let g = c.args in
    let n = c.node_bytes-n in
    let d = c.depth_of-d in
    let j = c.hidden_index-j in
    let a = c.first_node in
    let b = c.first_node-2 in
    let e = c.entry_of in
    let at = c.decommitment_from-at in
    let end = c.decommitment_from-end in
    let p = place (goal.at.returns c).After-decommitment_from-end in
    let made = c.write_decommitment in
    let y = made.new.out in
    let size = n.result * d.result + 2 * n.result in
    let is = made.ensures ∙ is-decommitment g.s c.requires.s_value.0 g.i c.requires.s_value.3 g.ch.now g.trees.now g.lcs.now c.requires.trees_len.0 n.result d.result j.result a.result b.result e.result n.ensures.0 d.ensures.0 j.ensures.0 a.ensures.0 b.ensures.0 e.ensures.0 in
    put-behind (decommitment g.s g.ch.now g.trees.now g.lcs.now) at.result _ size _ g.i g.opening.now y _ at.ensures.0 (p.0 ∙ end.ensures.0) (let q = p.1 in let r = p.0 in omega arith)
    (made.auto.out ∙ lent _ _ _ g.opening.now (sym p.0) p.1) is front
