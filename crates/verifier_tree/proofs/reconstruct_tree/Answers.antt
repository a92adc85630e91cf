-- The list has room for the covered nodes, so its front is all of them, and the tree by them is the reconstructed one.
use mathlib.Core.Path.{◌≡◌, sym, ap, ap₂, ◌∙◌}
use Prim.Native.Nat.{ℕ, ◌-◌, ◌*◌, ◌%◌}
use native.Mathlib.Omega.{arith}
use lib.ListN.{length}
use Rattle.spec.specs.Bytes.{part, zeros}
use Rattle.spec.specs.Shapes.{node_bytes, tree_bytes, opening_bytes}
use Rattle.laws.proofs.Lists.{length_part, length-zeros}
use Rattle.laws.proofs.Concat.{mul-limit, mul-rest}
use Rattle.planning_laws.proofs.ShapeFacts.{shape-facts, widths}
use Rattle.verifier_tree.proofs.FromOpening.{few-nodes, front-ready, front-tree}
use Rattle.verifier_tree.proofs.reconstruct_tree.Goals as goal

-- where the slots begin
slots-from : (v tau s : ℕ) → v ≡ s → v * tau ≡ s * tau
slots-from v tau s e = ap (λ (n : ℕ). n * tau) e

pub overflow_mul-first : goal.overflow_mul-first
overflow_mul-first c =
    let f = shape-facts c.args.s c.requires.0 in
    let v = c.commitment_bytes in
    let m = mul-limit v.result c.args.s.tau 96 32 v.ensures.1 f.tau-max in
    omega arith

pub slice_bounds-write_tree-end : goal.slice_bounds-write_tree-end
unfolding zeros
slice_bounds-write_tree-end c =
    let w = c.covered_nodes-m in
    let k = few-nodes c.args.s (shape-facts c.args.s c.requires.0) c.args.ch.now c.args.n c.requires.2 c.requires.3 in
    let z = length-zeros 576 in
    omega (arith, w.ensures.0, w.auto.out)

pub slice_bounds-write_tree-count-2 : goal.slice_bounds-write_tree-count-2
unfolding opening_bytes
slice_bounds-write_tree-count-2 c = (let h = c.requires.4 in let e = slots-from _ c.args.s.tau _ c.commitment_bytes.ensures.0 in omega arith)

pub slice_bounds-write_tree-start-2 : goal.slice_bounds-write_tree-start-2
unfolding opening_bytes
slice_bounds-write_tree-start-2 c = (let h = c.requires.4 in let e = slots-from _ c.args.s.tau _ c.commitment_bytes.ensures.0 in omega arith)

pub write_tree-requires : goal.write_tree-requires
unfolding tree_bytes opening_bytes zeros
write_tree-requires c =
    let g = c.args in
    let p = c.requires in
    let o = g.opening.now in
    let f = shape-facts g.s p.0 in
    let ws = widths g.s f in
    let w = c.node_bytes-w in
    let v = c.commitment_bytes in
    let first = v.result * g.s.tau in
    let at = slots-from _ c.args.s.tau _ c.commitment_bytes.ensures.0 in
    let nodes = c.covered_nodes-m in
    let n = c.leaf_count-l in
    let r = front-ready g.s f g.ch.now n.result g.n nodes.result nodes.new.out n.ensures.0 p.2 p.3 nodes.ensures.0 nodes.ensures.1 in
    let rest : length (part o first (length o - first)) ≡ length o - first = length_part o first (length o - first) (let h = p.4 in omega arith) in
    let slots : w.result * g.s.t ≡ node_bytes g.s * g.s.t = ap (λ (m : ℕ). m * g.s.t) w.ensures.0 in
    let used = mul-rest w.result g.n g.s.t p.3 in
    let long = p.4 in
    let all : length g.tree.now ≡ w.result * (2 * n.result - 1) = p.5 ∙ sym (ap₂ (λ (m k : ℕ). m * (2 * k - 1)) w.ensures.0 n.ensures.0) in
    let most = mul-limit w.result (2 * n.result - 1) 32 172031 w.ensures.2 (omega (arith, n.ensures.2)) in
    (n.ensures.1, r.0, r.1, r.2, r.3, omega arith, all, omega arith, w.ensures.1, w.ensures.2, ap (λ (m : ℕ). m % 8) w.ensures.0 ∙ ws.node-eight)

pub returns : goal.returns
unfolding zeros
returns c =
    let g = c.args in
    let p = c.requires in
    let f = shape-facts g.s p.0 in
    let w = c.node_bytes-w in
    let nodes = c.covered_nodes-m in
    let n = c.leaf_count-l in
    front-tree g.s f g.ch.now n.result g.n nodes.result nodes.new.out n.ensures.0 p.2 p.3 nodes.ensures.0 nodes.ensures.1
    w.result _ g.opening.now g.iv c.write_tree.new.tree w.ensures.0 (slots-from _ c.args.s.tau _ c.commitment_bytes.ensures.0) (c.write_tree.ensures g.s p.0 w.ensures.0)
