use borrow.Author.Rules.{rules}
use Prim.Native.Nat.{ℕ, ◌*◌, ◌%◌, ◌<◌}
use mathlib.Core.Path.{refl, ap, ◌∙◌}
use native.Mathlib.Nat.{mul-zero}
use native.Mathlib.Omega.{arith}
use lib.ListN.{take}
use Rattle.spec.specs.Bytes.{concat}
use Rattle.spec.specs.Version1.{faest1, reconstructed_vector_tree, reconstructed_trees}
use Rattle.laws.proofs.Concat.{mul-limit}
use Rattle.planning_laws.proofs.ShapeFacts.{shape-facts, widths}
use Rattle.planning_laws.proofs.Forest.{node-none}
use Rattle.verifier_forest.proofs.Laid.{Lent, lent, all-stand}
use Rattle.verifier_forest.proofs.reconstruct_trees.Goals as goal
use Rattle.verifier_forest.proofs.reconstruct_trees.Goals.{After-first_node-in-loop-i}

-- what is lent for vector i, once all of it is computed
here : (c : After-first_node-in-loop-i) →
    Lent c.args.s c.node_bytes-w.result c.loop-i.i c.depth_of-d.result c.hidden_index-j.result c.decommitment_from-from.result c.first_node.result c.first_node-in-loop-i.result
    c.args.ch.now c.args.opening.now c.loop-i.trees
here c =
    let g = c.args in
    let p = c.requires in
    lent g.s c.node_bytes-w.result c.loop-i.i c.depth_of-d.result _ _ _ _ g.ch.now g.opening.now c.loop-i.trees p.0 c.node_bytes-w.ensures.0
    c.loop-i-test.true c.depth_of-d.ensures.0 c.hidden_index-j.ensures.0
    c.decommitment_from-from.ensures.0 c.first_node.ensures.0 c.first_node-in-loop-i.ensures.0 p.2 (c.loop-i.invariant.1 ∙ p.3)

pub node_bytes-w-requires : goal.node_bytes-w-requires
node_bytes-w-requires c = c.requires.0

pub loop-i-init : goal.loop-i-init
unfolding concat
loop-i-init c =
    let w = c.node_bytes-w.result in
    (omega arith, refl, ap (λ (n : ℕ). take n c.args.trees.now) (ap (λ (n : ℕ). w * n) (node-none c.args.s (shape-facts c.args.s c.requires.0)) ∙ mul-zero w))

pub depth_of-d-requires : goal.depth_of-d-requires
depth_of-d-requires c = c.requires.0

pub hidden_index-j-requires : goal.hidden_index-j-requires
hidden_index-j-requires c = let p = c.requires in (p.0, p.1, c.loop-i-test.true)

pub decommitment_from-from-requires : goal.decommitment_from-from-requires
decommitment_from-from-requires c = (c.requires.0, omega arith)

pub first_node-requires : goal.first_node-requires
first_node-requires c = (c.requires.0, omega arith)

pub overflow_mul-at : goal.overflow_mul-at
overflow_mul-at c =
    let w = c.node_bytes-w in
    let x = c.first_node in
    let m = mul-limit w.result x.result 32 172032 w.ensures.2 x.ensures.1 in
    omega arith

pub first_node-requires-in-loop-i : goal.first_node-requires-in-loop-i
first_node-requires-in-loop-i c = (c.requires.0, omega arith)

pub overflow_mul-end : goal.overflow_mul-end
overflow_mul-end c =
    let w = c.node_bytes-w in
    let x = c.first_node-in-loop-i in
    let m = mul-limit w.result x.result 32 172032 w.ensures.2 x.ensures.1 in
    omega arith

pub slice_bounds-write_tree-count : goal.slice_bounds-write_tree-count
slice_bounds-write_tree-count c = (here (goal.at.slice_bounds-write_tree-count c).After-first_node-in-loop-i).start

pub slice_bounds-write_tree-start : goal.slice_bounds-write_tree-start
slice_bounds-write_tree-start c = (here (goal.at.slice_bounds-write_tree-start c).After-first_node-in-loop-i).start

pub slice_bounds-write_tree-count-in-loop-i : goal.slice_bounds-write_tree-count-in-loop-i
slice_bounds-write_tree-count-in-loop-i c = (here (goal.at.slice_bounds-write_tree-count-in-loop-i c).After-first_node-in-loop-i).order

pub slice_bounds-write_tree-start-in-loop-i : goal.slice_bounds-write_tree-start-in-loop-i
slice_bounds-write_tree-start-in-loop-i c = (here (goal.at.slice_bounds-write_tree-start-in-loop-i c).After-first_node-in-loop-i).order

pub slice_bounds-write_tree-end-in-loop-i : goal.slice_bounds-write_tree-end-in-loop-i
slice_bounds-write_tree-end-in-loop-i c = (here (goal.at.slice_bounds-write_tree-end-in-loop-i c).After-first_node-in-loop-i).end

pub write_tree-requires : goal.write_tree-requires
write_tree-requires c =
    let w = c.node_bytes-w.ensures in
    let s = c.args.s in
    let v = here (goal.at.write_tree-requires c).After-first_node-in-loop-i in
    (w.1, w.2, ap (λ (m : ℕ). m % 8) w.0 ∙ (widths s (shape-facts s c.requires.0)).node-eight, c.depth_of-d.ensures.1, v.index, v.slots, v.tree)

pub loop-i-preserved : goal.loop-i-preserved
loop-i-preserved c =
    let g = c.args in
    let v = here (goal.at.loop-i-preserved c).After-first_node-in-loop-i in
    let w = c.write_tree in
    let h : c.loop-i.i < g.s.tau = c.loop-i-test.true in
    let made = w.ensures g.s g.ch.now g.opening.now c.loop-i.i v.vector in
    (omega arith, search rules, v.put (reconstructed_vector_tree faest1 g.s g.iv g.ch.now g.opening.now) _ _ (w.auto.tree ∙ v.tree) made c.loop-i.invariant.2)

pub returns : goal.returns
unfolding reconstructed_trees
returns c =
    let s = c.args.s in
    let w = c.node_bytes-w in
    let l = c.loop-i in
    all-stand s c.requires.0 w.result l.i w.ensures.0 l.trees (reconstructed_vector_tree faest1 s c.args.iv c.args.ch.now c.args.opening.now) (omega arith) (l.invariant.1 ∙ c.requires.3) l.invariant.2
