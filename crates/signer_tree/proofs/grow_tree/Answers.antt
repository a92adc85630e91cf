use mathlib.Core.Path.{◌≡◌, sym, ap, ◌∙◌}
use Prim.Native.Nat.{ℕ, ◌+◌, ◌*◌, ◌≤◌}
use native.Mathlib.Nat.{mul-one, le_refl}
use native.Mathlib.Omega.{arith}
use lib.ListN.{length, take, drop}
use lib.Seq.{take_all, take_at}
use Rattle.spec.specs.Bytes.{part}
use Rattle.spec.specs.Tree.{expand_tree}
use Rattle.spec.specs.Leaves.{children}
use Rattle.job.specs.Versions.{primitives_of}
use Rattle.laws.proofs.Concat.{mul-limit}
use Rattle.tree.proofs.Growing.{length-children, grown-more}
use Rattle.signer_tree.proofs.grow_tree.Goals as goal

-- the first 2 a + k nodes of n bytes are in a tree of d bytes, where all of them are
inside : (n inner a k d : ℕ) → d ≡ n * (2 * inner + 1) → 2 * a + k ≤ 2 * inner + 1 → n * (2 * a + k) ≤ d
inside n inner a k d l h = (let m = mul-limit n (2 * a + k) n (2 * inner + 1) (le_refl n) h in omega arith)

pub copy-requires : goal.copy-requires
copy-requires c =
    let g = c.args in
    let p = c.requires in
    let i = inside g.n g.inner 0 1 (length g.tree.now) p.4 (omega arith) in
    let one : g.n * 1 ≡ g.n = mul-one g.n in
    let r = p.3 in
    omega arith

pub loop-a-init : goal.loop-a-init
unfolding expand_tree
loop-a-init c =
    let g = c.args in
    let p = c.requires in
    let r = g.root.now in
    let x = g.tree.now in
    let copied = c.copy.ensures in
    let same = c.copy.auto.dst in
    let size : length r ≡ g.n * 1 = p.3 ∙ sym (mul-one g.n) in
    let small = p.5 in (
      omega arith,
      same ∙ p.4,
      omega arith,
      λ s ok e. ap (take (g.n * 1)) copied ∙ take_at r (drop (length r) x) (g.n * 1) size,
    )

pub expand_node-requires : goal.expand_node-requires
expand_node-requires c =
    let g = c.args in
    let p = c.requires in
    let l = c.loop-a in
    let i = inside g.n g.inner l.a 3 (length l.tree) l.invariant.1 (omega arith) in
    (p.0, p.1, p.2, i, l.invariant.2)

pub loop-a-preserved : goal.loop-a-preserved
loop-a-preserved c =
    let g = c.args in
    let l = c.loop-a in
    let i = inside g.n g.inner l.a 1 (length l.tree) l.invariant.1 (omega arith) in
    let made = c.expand_node in
    let P = primitives_of g.version in
    let same = made.auto.tree in
    let small = l.invariant.2 in (
      omega arith,
      same ∙ l.invariant.1,
      omega arith,
      λ s ok e. ap (take (g.n * (2 * (l.a + 1) + 1))) (made.ensures s ok e)
          ∙ grown-more g.n g.root.now (children P s g.iv) l.a l.tree i
          (length-children P s g.iv l.a (part l.tree (g.n * l.a) g.n) ∙ ap (λ (m : ℕ). 2 * m) (sym e)) (l.invariant.3 s ok e),
    )

pub returns : goal.returns
returns c = λ s ok e.
    let g = c.args in
    let l = c.loop-a in
    let last : l.a ≡ g.inner = omega arith in
    let all : length l.tree ≡ g.n * (2 * l.a + 1) = l.invariant.1 ∙ ap (λ (m : ℕ). g.n * (2 * m + 1)) (sym last) in
    sym (take_all (g.n * (2 * l.a + 1)) l.tree (omega arith)) ∙ l.invariant.3 s ok e ∙ ap (expand_tree g.n g.root.now (children (primitives_of g.version) s g.iv)) last
