-- What `commit_leaf` and `add_row` ensure, of the leaf that `leaf_node` finds.
use mathlib.Core.Path.{◌≡◌, refl, sym, ap, ap₂, ◌∙◌, subst}
use mathlib.Core.List.{List}
use Prim.Native.Nat.{ℕ, ◌+◌, ◌-◌, ◌*◌, ◌%◌, ◌^◌, ◌≤◌}
use native.Mathlib.Omega.{arith}
use lib.ListN.{length}
use Rattle.spec.specs.Bytes.{part}
use Rattle.spec.specs.Shapes.{node_bytes, key_words}
use Rattle.spec.specs.Leaves.{node_at}
use Rattle.laws.proofs.Concat.{mul-limit}
use Rattle.planning_laws.proofs.ShapeFacts.{shape-facts, widths}
use Rattle.columns.specs.Columns.{Xored}
use Rattle.job.specs.Versions.{byte_of, leaf_seed_of, leaf_commitment_of}
use Rattle.job.specs.Jobs.{nonce_of, entry_commitment, entry_byte}
use Rattle.job.proofs.Each.{prg-byte}
use Rattle.vector.proofs.Buffers.{part-size, lent}
use Rattle.vector.proofs.add_leaf.Goals as goal
use Rattle.vector.proofs.add_leaf.Goals.{After-commit_leaf, After-leaf_node}

-- the seed has a node's length
seed-size : (c : After-commit_leaf) → length c.commit_leaf.new.seed ≡ node_bytes c.args.g.shape
seed-size c = c.commit_leaf.auto.seed ∙ c.requires.seed_len.0

-- the leaf ends within the nodes lent
leaf-end : (c : After-leaf_node) → c.node_bytes-n.result * c.leaf_node.result + c.node_bytes-n.result ≤ length c.args.tree.now
leaf-end c =
    let n = c.node_bytes-n in
    let l = c.leaf_node in
    let all : n.result * l.result ≡ node_bytes c.args.g.shape * l.result = ap (λ (w : ℕ). w * l.result) n.ensures.0 in
    omega (arith, c.requires.lent.0.tree, l.ensures.1, n.ensures.0)

pub overflow_mul-a : goal.overflow_mul-a
overflow_mul-a c =
    let n = c.node_bytes-n in
    let m = mul-limit n.result c.leaf_node.result 32 172032 n.ensures.2 (omega (arith, c.leaf_node.ensures.2)) in
    omega arith

pub leaf_tweak-tweak-requires : goal.leaf_tweak-tweak-requires
leaf_tweak-tweak-requires c =
    let f = shape-facts c.args.g.shape c.requires.lent.0.job.shape in
    (omega arith, omega arith)

pub overflow_add-row : goal.overflow_add-row
overflow_add-row c =
    let f = shape-facts c.args.g.shape c.requires.lent.0.job.shape in
    omega arith

pub overflow_add-a : goal.overflow_add-a
overflow_add-a c =
    let n = c.node_bytes-n in
    let l = c.leaf_node in
    let m = mul-limit n.result l.result 32 172032 n.ensures.2 (omega (arith, l.ensures.2)) in
    omega (arith, n.ensures.2)

pub slice_bounds-commit_leaf-end : goal.slice_bounds-commit_leaf-end
slice_bounds-commit_leaf-end c = leaf-end (goal.at.slice_bounds-commit_leaf-end c).After-leaf_node

pub commit_leaf-requires : goal.commit_leaf-requires
commit_leaf-requires c =
    let n = c.node_bytes-n in
    let a = n.result * c.leaf_node.result in
    let lent-tree = c.requires.lent.0 in
    (lent-tree.job.shape, lent-tree.job.kind, lent a (a + n.result) n.result c.args.tree.now refl (leaf-end (goal.at.commit_leaf-requires c).After-leaf_node) ∙ n.ensures.0, c.requires.seed_len.0, c.requires.seed_len.1)

pub add_row-requires : goal.add_row-requires
add_row-requires c =
    let job = c.requires.lent.0.job in
    let w = widths c.args.g.shape (shape-facts c.args.g.shape job.shape) in
    let e = seed-size (goal.at.add_row-requires c).After-commit_leaf in
    (omega (arith, w.node-min), omega (arith, w.node-max), ap (λ (n : ℕ). n % 8) e ∙ w.node-eight, omega (arith, job.row, c.requires.seed_len.2))

pub returns : goal.returns
unfolding node_at entry_commitment entry_byte
returns c =
    let i = c.args.i in
    let g = c.args.g in
    let s = g.shape in
    let x = c.args.tree.now in
    let leaf = c.leaf_node in
    let n = c.node_bytes-n in
    let tweak = c.leaf_tweak-tweak.ensures ∙ ap (λ (n : ℕ). i + n - 1) c.leaf_count.ensures.0 in
    let made = c.commit_leaf.ensures i tweak c.requires.lent.1 in
    let a = n.result * leaf.result in
    let key = ap (part x a) (part-size a n.result) ∙ ap₂ (λ (w k : ℕ). part x (w * k) w) n.ensures.0 leaf.ensures.0 in
    let w = widths s (shape-facts s c.requires.lent.0.job.shape) in
    let seed = made.0 ∙ ap (leaf_seed_of g.version s g.iv i) key in
    let byte = ap (λ (k : List ℕ). byte_of (key_words s) k (nonce_of g (i + 2 ^ 31))) seed ∙ sym (prg-byte g.version s _ g.iv (i + 2 ^ 31)) in record {
      commitment_after = made.1 ∙ ap (leaf_commitment_of g.version s g.iv i) key;
      xored = subst (λ (f : ℕ → ℕ). Xored 0 (length c.args.sum.now) (λ p. f (g.stretch.first + p)) c.args.sum.now c.add_row.new.sum) byte
          (c.add_row.ensures (key_words s) (seed-size (goal.at.returns c).After-commit_leaf ∙ w.node-words));
    }
