use mathlib.Core.Path.{◌≡◌, refl, sym, ap, ap₂, ◌∙◌}
use mathlib.Core.List.{List}
use Prim.Native.Nat.{ℕ, ◌+◌, ◌-◌, ◌*◌, ◌%◌}
use native.Mathlib.Nat.{mul-zero}
use native.Mathlib.Omega.{arith}
use lib.ListN.{length, take}
use lib.Seq.{take_all}
use Rattle.spec.specs.declared.Shape.{Shape}
use Rattle.spec.specs.Bytes.{part, concat}
use Rattle.spec.specs.Tree.{expand_tree}
use Rattle.spec.specs.Shapes.{node_bytes, entries_of}
use Rattle.spec.specs.Primitives.{prg}
use Rattle.spec.specs.Leaves.{children}
use Rattle.spec.specs.Version1.{faest1, prg1, children1, first_node, trees1_bytes}
use Rattle.job.specs.Versions.{primitives_of}
use Rattle.planning_laws.proofs.ShapeFacts.{shape-facts, widths}
use Rattle.planning_laws.proofs.Forest.{node-none, node-all}
use Rattle.signer_forest.proofs.Places.{Placed, placed, lent, put-behind}
use Rattle.signer_forest.proofs.grow_each.Invariants.{tree}
use Rattle.signer_forest.proofs.grow_each.Goals as goal
use Rattle.signer_forest.proofs.grow_each.Goals.{After-first_node}

-- the places of the tree and of the root, where both are known
at : (c : After-first_node) → Placed c.args.s c.loop-i.i c.node_bytes-n.result c.entry_count-inner.result c.first_node.result (length c.loop-i.trees) (length c.args.roots.now)
at c =
    let l = c.loop-i in
    placed c.args.s l.i _ _ _ _ _ c.requires.0 (omega arith) c.node_bytes-n.ensures.0 c.entry_count-inner.ensures.0 c.first_node.ensures.0 l.invariant.1 c.requires.1

-- what `grow_tree` writes is the tree of vector i
grown : (s : Shape) (roots iv : List ℕ) (i n e m : ℕ) (y : List ℕ) → n ≡ node_bytes s → e ≡ entries_of s i → m ≡ n → y ≡ expand_tree n (part roots (n * i) m) (children faest1 s iv) (e - 1) → y ≡ tree s roots iv i
unfolding prg children faest1 prg1 children1
grown s roots iv i n e m y en ee em ey =
    ey ∙ ap (λ (x : ℕ). expand_tree n (part roots (n * i) x) (children faest1 s iv) (e - 1)) em
    ∙ ap₂ (λ (w x : ℕ). expand_tree w (part roots (w * i) w) (children faest1 s iv) (x - 1)) en ee

pub loop-i-init : goal.loop-i-init
unfolding concat
loop-i-init c =
    let s = c.args.s in
    let none : node_bytes s * first_node s 0 ≡ 0 = ap (λ (m : ℕ). node_bytes s * m) (node-none s (shape-facts s c.requires.0)) ∙ mul-zero (node_bytes s) in
    (omega arith, c.requires.2, ap (λ (m : ℕ). take m c.args.trees.now) none)

pub overflow_mul-from : goal.overflow_mul-from
overflow_mul-from c = let p = at (goal.at.overflow_mul-from c).After-first_node in omega arith

pub overflow_mul-to : goal.overflow_mul-to
overflow_mul-to c = let p = at (goal.at.overflow_mul-to c).After-first_node in omega arith

pub overflow_add-to : goal.overflow_add-to
overflow_add-to c = let p = at (goal.at.overflow_add-to c).After-first_node in omega arith

pub overflow_mul-to-in-loop-i : goal.overflow_mul-to-in-loop-i
overflow_mul-to-in-loop-i c = let p = at (goal.at.overflow_mul-to-in-loop-i c).After-first_node in omega arith

pub overflow_add-to-in-loop-i : goal.overflow_add-to-in-loop-i
overflow_add-to-in-loop-i c = let p = at (goal.at.overflow_add-to-in-loop-i c).After-first_node in omega arith

pub overflow_mul-at : goal.overflow_mul-at
overflow_mul-at c = (let p = at (goal.at.overflow_mul-at c).After-first_node in omega arith)

pub overflow_add-root : goal.overflow_add-root
overflow_add-root c = let p = at (goal.at.overflow_add-root c).After-first_node in omega arith

pub slice_bounds-root-end : goal.slice_bounds-root-end
slice_bounds-root-end c = (at (goal.at.slice_bounds-root-end c).After-first_node).root

pub slice_bounds-grow_tree-end : goal.slice_bounds-grow_tree-end
slice_bounds-grow_tree-end c = (at (goal.at.slice_bounds-grow_tree-end c).After-first_node).room

pub grow_tree-requires : goal.grow_tree-requires
grow_tree-requires c =
    let g = c.args in
    let l = c.loop-i in
    let n = c.node_bytes-n in
    let e = c.entry_count-inner.result in
    let f = c.first_node.result in
    let p = at (goal.at.grow_tree-requires c).After-first_node in
    let w = widths g.s (shape-facts g.s c.requires.0) in
    let own = lent (n.result * l.i) (n.result * l.i + n.result) n.result g.roots.now refl p.root in
    let whole = lent (n.result * f) (n.result * f + n.result * (2 * (e - 1) + 1)) (n.result * (2 * (e - 1) + 1)) l.trees refl p.room in
    (n.ensures.1, n.ensures.2, ap (λ (m : ℕ). m % 8) n.ensures.0 ∙ w.node-eight, own, whole, omega arith)

pub loop-i-preserved : goal.loop-i-preserved
unfolding primitives_of
loop-i-preserved c =
    let g = c.args in
    let l = c.loop-i in
    let n = c.node_bytes-n in
    let e = c.entry_count-inner in
    let f = c.first_node in
    let p = at (goal.at.loop-i-preserved c).After-first_node in
    let made = c.grow_tree in
    let y = made.new.tree in
    let from = n.result * f.result in
    let size = n.result * (2 * (e.result - 1) + 1) in
    let whole = lent from (from + size) size l.trees refl p.room in
    let is = grown g.s g.roots.now g.iv l.i n.result e.result (n.result * l.i + n.result - n.result * l.i) y n.ensures.0 e.ensures.0 (omega arith) (made.ensures g.s c.requires.0 n.ensures.0) in (
      omega arith,
      omega (arith, l.invariant.1),
      put-behind (tree g.s g.roots.now g.iv) from (node_bytes g.s * first_node g.s l.i) size _ l.i l.trees y _ (ap₂ ◌*◌ n.ensures.0 f.ensures.0) p.next p.room
          (made.auto.tree ∙ whole) is l.invariant.2,
    )

pub returns : goal.returns
unfolding trees1_bytes
returns c =
    let g = c.args in
    let s = g.s in
    let l = c.loop-i in
    let last : l.i ≡ s.tau = omega arith in
    let all : length l.trees ≡ node_bytes s * first_node s l.i = l.invariant.1 ∙ ap (λ (m : ℕ). node_bytes s * m) (sym (ap (first_node s) last ∙ node-all s (shape-facts s c.requires.0))) in
    sym (take_all (node_bytes s * first_node s l.i) l.trees (omega arith)) ∙ l.invariant.2 ∙ ap (λ (m : ℕ). concat m (tree s g.roots.now g.iv)) last
