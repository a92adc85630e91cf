-- The single tree is what `grow_tree` writes: of L leaves, L - 1 nodes have children.
use mathlib.Core.Path.{◌≡◌, sym, ap, ap₂, ◌∙◌}
use Prim.Native.Nat.{ℕ, ◌+◌, ◌-◌, ◌*◌, ◌%◌}
use native.Mathlib.Omega.{arith}
use lib.ListN.{length}
use Rattle.spec.specs.Tree.{expand_tree}
use Rattle.spec.specs.Shapes.{leaves, tree_bytes}
use Rattle.spec.specs.Primitives.{faest}
use Rattle.spec.specs.Leaves.{children}
use Rattle.spec.specs.Signer.{signer_tree}
use Rattle.job.specs.Versions.{primitives_of}
use Rattle.laws.proofs.Concat.{mul-limit}
use Rattle.planning_laws.proofs.ShapeFacts.{shape-facts, widths}
use Rattle.signer_tree.proofs.grow.Goals as goal

pub grow_tree-requires : goal.grow_tree-requires
unfolding tree_bytes
grow_tree-requires c =
    let g = c.args in
    let n = c.node_bytes-n in
    let count = c.leaf_count-inner in
    let w = widths g.s (shape-facts g.s c.requires.0) in
    let size : 2 * leaves g.s - 1 ≡ 2 * (count.result - 1) + 1 = (let e = count.ensures.0 in let p = count.ensures.1 in omega arith) in
    let all : length g.tree.now ≡ n.result * (2 * (count.result - 1) + 1) = c.requires.2 ∙ ap₂ ◌*◌ (sym n.ensures.0) size in
    let most = mul-limit n.result (2 * (count.result - 1) + 1) 32 172031 n.ensures.2 (let m = count.ensures.2 in omega arith) in
    (n.ensures.1, n.ensures.2, ap (λ (m : ℕ). m % 8) n.ensures.0 ∙ w.node-eight, c.requires.1 ∙ sym n.ensures.0, all, omega arith)

pub returns : goal.returns
unfolding signer_tree primitives_of
returns c =
    let g = c.args in
    let n = c.node_bytes-n in
    let count = c.leaf_count-inner in
    c.grow_tree.ensures g.s c.requires.0 n.ensures.0
    ∙ ap₂ (λ (m x : ℕ). expand_tree m g.root.now (children faest g.s g.iv) (x - 1)) n.ensures.0 count.ensures.0
