use borrow.Author.Rules.{rules}
use mathlib.Core.Path.{◌≡◌, refl, sym, ap, ◌∙◌}
use Prim.Native.Nat.{ℕ, ◌+◌, ◌-◌, ◌*◌, ◌≤◌}
use native.Mathlib.Nat.{mul-one, le_refl}
use native.Mathlib.Omega.{arith}
use lib.ListN.{length, take, drop}
use lib.Seq.{take_all, take_at}
use Rattle.spec.specs.Bytes.{part, zeros}
use Rattle.spec.specs.Tree.{revealed_from, expand_tree}
use Rattle.laws.proofs.Lists.{length-zeros}
use Rattle.laws.proofs.Concat.{mul-limit}
use Rattle.tree.proofs.Growing.{grown-more}
use Rattle.verifier_tree.specs.ByNodes.{read_before, children_by}
use Rattle.verifier_tree.proofs.Places.{all_after, node-passed}
use Rattle.verifier_tree.proofs.Children.{put-zeros-front, read-longer, length-by}
use Rattle.verifier_tree.proofs.write_tree.Goals as goal

-- the first 2 a + k nodes are in a tree of l leaves
inside : (w l a k d : ℕ) → d ≡ w * (2 * l - 1) → 2 * a + k ≤ 2 * l - 1 → w * (2 * a + k) ≤ d
inside w l a k d e h = (let m = mul-limit w (2 * a + k) w (2 * l - 1) (le_refl w) h in omega arith)

-- the root is in the tree
root-end : (w l d : ℕ) → d ≡ w * (2 * l - 1) → 1 ≤ l → w ≤ d
root-end w l d e h = (let i = inside w l 0 1 d e (omega arith) in let o = mul-one w in omega arith)

pub slice_bounds-clear_from-end : goal.slice_bounds-clear_from-end
slice_bounds-clear_from-end c = root-end c.args.w c.args.l _ c.requires.6 c.requires.0

pub overflow_sub-p : goal.overflow_sub-p
overflow_sub-p c =
    let nodes = c.args.nodes.now in
    let z = node-passed nodes 0 c.requires.1 c.requires.2 in
    let y = all_after nodes in
    omega arith

pub loop-a-init : goal.loop-a-init
unfolding expand_tree revealed_from read_before
loop-a-init c =
    let d = c.args.tree.now in
    let nodes = c.args.nodes.now in
    let w = c.args.w in (
      omega arith,
      search rules,
      (sym (all_after nodes), (let z = node-passed nodes 0 c.requires.1 c.requires.2 in let y = all_after nodes in omega arith), refl),
      λ s ok e. ap (take (w * 1)) (put-zeros-front w d c.clear_from.new.out (root-end w c.args.l _ c.requires.6 c.requires.0) c.clear_from.ensures)
          ∙ take_at (zeros w) (drop w d) (w * 1) (length-zeros w ∙ sym (mul-one w)),
    )

pub write_children-p-requires : goal.write_children-p-requires
write_children-p-requires c =
    let g = c.args in
    let p = c.requires in
    let l = c.loop-a in
    let r = read-longer g.nodes.now (l.a + 1) (g.l - 1) (omega arith) in
    (p.1, p.3 l.a (omega arith), l.invariant.2, omega (arith, p.4), p.5, inside g.w g.l l.a 3 _ l.invariant.1 (omega arith), omega (arith, l.invariant.1, p.6, p.7), p.8, p.9, p.10)

pub loop-a-preserved : goal.loop-a-preserved
loop-a-preserved c =
    let g = c.args in
    let p = c.requires in
    let l = c.loop-a in
    let w = c.write_children-p in
    let r = read-longer g.nodes.now (l.a + 1) (g.l - 1) (omega arith) in (
      omega arith,
      search rules,
      w.ensures.0,
      λ s ok e. ap (take (g.w * (2 * (l.a + 1) + 1))) (w.ensures.1 s ok e)
          ∙ grown-more g.w (zeros g.w) (children_by g.w g.nodes.now g.slots.now g.n s g.iv) l.a l.tree (inside g.w g.l l.a 1 _ l.invariant.1 (omega arith))
          (length-by g.w g.nodes.now g.slots.now g.n l.a (p.3 l.a (omega arith)) (omega (arith, p.4)) s g.iv (part l.tree (g.w * l.a) g.w) e p.5) (l.invariant.3 s ok e),
    )

pub returns : goal.returns
returns c =
    λ s ok k.
    let g = c.args in
    let p = c.requires in
    let l = c.loop-a in
    let e : l.a ≡ g.l - 1 = omega arith in
    let all : length l.tree ≡ g.w * (2 * l.a + 1) = l.invariant.1 ∙ ap (λ (m : ℕ). g.w * m) (let z : 2 * g.l - 1 ≡ 2 * l.a + 1 = omega (arith, p.0) in z) in
    sym (take_all (g.w * (2 * l.a + 1)) l.tree (omega arith)) ∙ l.invariant.3 s ok k ∙ ap (expand_tree g.w (zeros g.w) (children_by g.w g.nodes.now g.slots.now g.n s g.iv)) e
