use borrow.Author.Rules.{rules}
use Prim.Native.Nat.{ℕ, ◌+◌, ◌-◌, ◌*◌, ◌%◌, ◌^◌, ◌≤◌, ◌<◌}
use mathlib.Core.Path.{◌≡◌, sym, ap, ap₂, ◌∙◌}
use mathlib.Core.List.{List, ◌++◌}
use native.Mathlib.Nat.{mod-eq_of_lt, one-mul, mul-one, le_refl}
use native.Mathlib.Omega.{arith}
use lib.ListN.{length, take, drop}
use lib.Pow.{pow_mono, pow_pos}
use lib.Seq.{take_all, take_at}
use Rattle.spec.specs.Bytes.{part, zeros}
use Rattle.spec.specs.Tree.{expand_tree}
use Rattle.spec.specs.Shapes.{entries_of}
use Rattle.spec.specs.Version1.{faest1, reconstructed_children1, reconstructed_vector_tree}
use Rattle.laws.proofs.Lists.{length_part, length-zeros}
use Rattle.laws.proofs.Concat.{mul-limit, mul-within}
use Rattle.verifier_forest.proofs.Walk.{walk_start, walk-past, walk-off, walk_inside, walk-down}
use Rattle.verifier_forest.proofs.ByVector.{way-grown, other-grown}
use Rattle.verifier_forest.proofs.write_tree.Goals as goal
use Rattle.verifier_forest.proofs.write_tree.Goals.{Then-a-path}

-- the shift does not leave the word
power : (d : ℕ) → d ≤ 12 → (1 * 2 ^ d % 2 ^ 64 ≡ 2 ^ d) × (1 ≤ 2 ^ d) × (2 ^ d ≤ 4096)
power d h =
    let m : 2 ^ d ≤ 4096 = pow_mono h in
    let p = pow_pos d in
    let o = one-mul (2 ^ d) in
    let l : 1 * 2 ^ d < 2 ^ 64 = omega arith in
    (mod-eq_of_lt l ∙ o, p, m)

-- the first 2 a + k nodes are in a tree of p leaves
inside : (w p a k n : ℕ) → w ≤ 32 → p ≤ 4096 → n ≡ w * (2 * p - 1) → 2 * a + k ≤ 2 * p - 1 → (w * (2 * a + k) ≤ n) × (n < 2 ^ 32)
inside w p a k n h l e r =
    let m = mul-limit w (2 * a + k) w (2 * p - 1) (le_refl w) r in
    let q = mul-limit w (2 * p - 1) 32 8191 h (omega arith) in
    (omega arith, omega arith)

-- the root is zeros
root_stands : (w : ℕ) (d y : List ℕ) → w ≤ length d → y ≡ zeros (length (part d 0 (w - 0)) - 0) → take (w * 1) (take 0 d ++ (y ++ drop (w - 0) (drop 0 d))) ≡ zeros w
root_stands w d y h e =
    let m : w - 0 ≡ w = omega arith in
    let l : length (part d 0 (w - 0)) - 0 ≡ w = (let z = ap (λ (n : ℕ). length (part d 0 n)) m ∙ length_part d 0 w (omega arith) in omega arith) in
    let z : y ≡ zeros w = e ∙ ap zeros l in
    take_at y (drop (w - 0) (drop 0 d)) (w * 1) (ap length z ∙ length-zeros w ∙ sym (mul-one w)) ∙ z

-- the first 2 a + n nodes are in the tree, if it has a node a that is no leaf
room : (w d a k n : ℕ) → w ≤ 32 → d ≤ 12 → n ≡ w * (2 * 2 ^ d - 1) → k ≤ 3 → a < 2 ^ d - 1 → (w * (2 * a + k) ≤ n) × (n < 2 ^ 32)
room w d a k n h l e r s = (let q = power d l in inside w (2 ^ d) a k n h q.2 e (omega arith))

-- the node that is met on the way is no leaf
level : (c : Then-a-path) → c.loop-a.l < c.args.d
level c = (let g = c.args in let l = c.loop-a in walk_inside g.d g.j l.a l.path l.l l.invariant.3 c.if-a-path.true (omega arith))

-- the root is in the tree
root-end : (w d n : ℕ) → w ≤ 32 → d ≤ 12 → n ≡ w * (2 * 2 ^ d - 1) → w ≤ n
root-end w d n h l e =
    let q = power d l in
    let i = inside w (2 ^ d) 0 1 n h q.2 e (omega arith) in
    let o = mul-one w in
    omega arith

pub slice_bounds-clear_from-end : goal.slice_bounds-clear_from-end
slice_bounds-clear_from-end c = root-end c.args.w c.args.d _ c.requires.1 c.requires.3 c.requires.6

pub overflow_sub-inner : goal.overflow_sub-inner
overflow_sub-inner c = (let q = power c.args.d c.requires.3 in omega arith)

pub loop-a-init : goal.loop-a-init
unfolding expand_tree
loop-a-init c =
    let g = c.args in
    let p = c.requires in
    let q = power g.d p.3 in (
      omega arith,
      omega arith,
      search rules,
      walk_start g.d g.j p.4,
      λ s ch opening i v. root_stands g.w g.tree.now _ (root-end c.args.w c.args.d _ c.requires.1 c.requires.3 c.requires.6) c.clear_from.ensures,
    )

pub overflow_sub-m : goal.overflow_sub-m
overflow_sub-m c = let l = level (goal.at.overflow_sub-m c).Then-a-path in omega arith

pub overflow_sub-m-then-a-path : goal.overflow_sub-m-then-a-path
overflow_sub-m-then-a-path c = let l = level (goal.at.overflow_sub-m-then-a-path c).Then-a-path in omega arith

pub overflow_shr-b : goal.overflow_shr-b
overflow_shr-b c = omega (arith, c.requires.3)

pub write_covered-requires : goal.write_covered-requires
write_covered-requires c =
    let p = c.requires in
    let m = mul-within c.args.w c.loop-a.l c.args.d (level (goal.at.write_covered-requires c).Then-a-path) in
    let r = room c.args.w c.args.d c.loop-a.a 3 _ c.requires.1 c.requires.3 c.loop-a.invariant.2 (omega arith) (omega arith) in
    (p.0, omega arith, omega (arith, p.5), r.0, r.1)

pub loop-a-preserved-then-a-path : goal.loop-a-preserved-then-a-path
loop-a-preserved-then-a-path c =
    let g = c.args in
    let l = c.loop-a in
    let up = c.if-a-path.true ∙ l.invariant.3.node in (
      l.invariant.0,
      l.invariant.1,
      search rules,
      walk-down g.d g.j l.a l.l (level (goal.at.loop-a-preserved-then-a-path c).Then-a-path) up,
      λ s ch opening i v.
          way-grown g.w g.d g.j g.slots.now s ch opening i v c.requires.4 g.iv l.a l.l l.tree _ (level (goal.at.loop-a-preserved-then-a-path c).Then-a-path) up c.write_covered.ensures
          (l.invariant.4 s ch opening i v),
    )

pub expand_node-requires : goal.expand_node-requires
expand_node-requires c =
    let p = c.requires in
    let r = room c.args.w c.args.d c.loop-a.a 3 _ c.requires.1 c.requires.3 c.loop-a.invariant.2 (omega arith) (omega arith) in
    (p.0, p.1, p.2, r.0, r.1)

pub loop-a-preserved : goal.loop-a-preserved
loop-a-preserved c =
    let g = c.args in
    let l = c.loop-a in
    let o = walk-off g.d g.j l.a l.path l.l l.invariant.3 c.if-a-path.false in (
      l.invariant.0,
      l.invariant.1,
      search rules,
      walk-past g.d g.j l.a l.path l.l l.invariant.3 c.if-a-path.false,
      λ s ch opening i v.
          other-grown g.w g.d g.j g.slots.now s ch opening i v c.requires.4 g.iv l.a l.tree _ o (room c.args.w c.args.d c.loop-a.a 1 _ c.requires.1 c.requires.3 c.loop-a.invariant.2 (omega arith) (omega arith)).0
          (c.expand_node.ensures s v.shape v.width) (l.invariant.4 s ch opening i v),
    )

pub returns : goal.returns
unfolding reconstructed_vector_tree entries_of
returns c =
    λ s ch opening i v.
    let g = c.args in
    let l = c.loop-a in
    let q = power g.d c.requires.3 in
    let e : l.a ≡ 2 ^ g.d - 1 = omega arith in
    let all : length l.tree ≡ g.w * (2 * l.a + 1) = l.invariant.2 ∙ ap (λ (m : ℕ). g.w * m) (let z : 2 * 2 ^ g.d - 1 ≡ 2 * l.a + 1 = omega arith in z) in
    let kids = reconstructed_children1 faest1 s g.iv ch opening i in
    sym (take_all (g.w * (2 * l.a + 1)) l.tree (omega arith))
    ∙ l.invariant.4 s ch opening i v
    ∙ ap₂ (λ (w n : ℕ). expand_tree w (zeros w) kids n) v.width (e ∙ ap (λ (n : ℕ). 2 ^ n - 1) v.depth)
