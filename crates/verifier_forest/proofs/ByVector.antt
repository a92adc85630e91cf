-- A vector's tree, grown by the children of each node: those of a node of the way are zeros and a slot, those of any other come from the generator.
use Prim.Native.Nat.{ℕ, zero, suc, ◌+◌, ◌-◌, ◌*◌, ◌/◌, ◌%◌, ◌^◌, ◌≤◌, ◌<◌}
use mathlib.Core.Path.{◌≡◌, sym, ap, ap₂, ◌∙◌, subst}
use mathlib.Core.Bool.{Bool, false, cond, or-false}
use mathlib.Core.List.{List, ◌++◌}
use native.Mathlib.Numerals.{add-one}
use native.Mathlib.Omega.{arith}
use lib.ListN.{length, take, drop}
use lib.Seq.{take-add, drop-drop}
use Rattle.spec.specs.declared.Shape.{Shape}
use Rattle.spec.specs.Bytes.{part, tabulate, zeros, index_of}
use Rattle.spec.specs.Tree.{is_ancestor, some, covered, expand_tree}
use Rattle.spec.specs.Shapes.{node_bytes, entries_of, hidden_index}
use Rattle.spec.specs.Primitives.{prg}
use Rattle.spec.specs.Leaves.{children}
use Rattle.spec.specs.Version1.{faest1, prg1, children1, leaf_in, sibling_at, siblings, slot1, on_path, given_node1, reconstructed_children1}
use Rattle.job.specs.Versions.{primitives_of}
use Rattle.job.specs.declared.Version.TheVariants.{One}
use Rattle.tree.proofs.Growing.{node-place, length-children, grown-more}
use Rattle.planning_laws.proofs.Path.{up_from, leaf-is, above}
use Rattle.verifier_forest.specs.ByWay.{CoveredPair, VectorOf}
use Rattle.verifier_forest.proofs.Walk.{child-on, child-off, off-way, sibling-place}

-- two rules that agree on child b and on the other child agree on both, left and right
both : (f g : ℕ → List ℕ) (a b : ℕ) → b ≤ 1 → f (2 * a + 1 + b) ≡ g (2 * a + 1 + b) → f (2 * a + 2 - b) ≡ g (2 * a + 2 - b) → f (2 * a + 1) ++ f (2 * a + 2) ≡ g (2 * a + 1) ++ g (2 * a + 2)
both f g a zero h p q =
    ap₂ ◌++◌ (subst (λ (n : ℕ). f n ≡ g n) (let z : 2 * a + 1 + 0 ≡ 2 * a + 1 = omega arith in z) p) (subst (λ (n : ℕ). f n ≡ g n) (let z : 2 * a + 2 - 0 ≡ 2 * a + 2 = omega arith in z) q)
both f g a (suc zero) h p q =
    ap₂ ◌++◌ (subst (λ (n : ℕ). f n ≡ g n) (let z : 2 * a + 2 - 1 ≡ 2 * a + 1 = omega arith in z) q) (subst (λ (n : ℕ). f n ≡ g n) (let z : 2 * a + 1 + 1 ≡ 2 * a + 2 = omega arith in z) p)
both f g a (suc (suc b)) h p q = absurd (omega arith)

-- the first nodes with the two behind them
two-more : (w a : ℕ) (x : List ℕ) → take (w * (2 * (a + 1) + 1)) x ≡ take (w * (2 * a + 1)) x ++ (part x (w * (2 * a + 1)) w ++ part x (w * (2 * a + 2)) w)
two-more w a x =
    let n = w * (2 * a + 1) in
    let p = node-place w a 1 in
    let q = node-place w a 2 in
    let r = node-place w a 3 in
    let next : w * (2 * (a + 1) + 1) ≡ n + (w + w) = ap (λ (m : ℕ). w * m) (let z : 2 * (a + 1) + 1 ≡ 2 * a + 3 = omega arith in z) ∙ omega arith in
    let second : n + w ≡ w * (2 * a + 2) = omega arith in
    ap (λ (m : ℕ). take m x) next
    ∙ take-add n (w + w) x
    ∙ ap (λ (y : List ℕ). take n x ++ y) (take-add w w (drop n x) ∙ ap (λ (y : List ℕ). part x n w ++ take w y) (drop-drop w n x ∙ ap (λ (m : ℕ). drop m x) second))

module _ (w d j : ℕ) (slots : List ℕ) (s : Shape) (ch opening : List ℕ) (i : ℕ) (v : VectorOf w d j slots s ch opening i) (small : j < 2 ^ d) (iv : List ℕ) where
  abbrev Kids : ℕ → List ℕ → List ℕ
  Kids = reconstructed_children1 faest1 s iv ch opening i

  hides-is : (a : ℕ) → on_path s ch i a ≡ is_ancestor a (up_from d j 0)
  unfolding on_path covered some leaf_in entries_of
  hides-is a =
      or-false (is_ancestor a (leaf_in s i (hidden_index s ch i)))
      ∙ ap₂ (λ (n m : ℕ). is_ancestor a (2 ^ n - 1 + m)) (sym v.depth) (sym v.index)
      ∙ ap (is_ancestor a) (sym (leaf-is d j))

  siblings-is : siblings s ch i ≡ tabulate d (λ l. sibling_at d j (l + 1))
  unfolding siblings
  siblings-is = ap₂ (λ (n m : ℕ). tabulate n (λ l. sibling_at n m (l + 1))) (sym v.depth) (sym v.index)

  -- a node of the way, and the sibling of one
  given-on : (c m : ℕ) → m ≤ d → c ≡ up_from d j m → given_node1 s ch opening i c ≡ zeros w
  unfolding given_node1
  given-on c m h e =
      ap (λ (b : Bool). cond b (zeros (node_bytes s)) (slot1 s opening i (index_of c (siblings s ch i)))) (hides-is c ∙ ap (λ (n : ℕ). is_ancestor n (up_from d j 0)) e ∙ above d j m h)
      ∙ ap zeros (sym v.width)

  given-off : (c l : ℕ) → l < d → c ≡ sibling_at d j (l + 1) → is_ancestor c (up_from d j 0) ≡ false → given_node1 s ch opening i c ≡ part slots (w * l) w
  unfolding given_node1
  given-off c l h e o =
      ap (λ (b : Bool). cond b (zeros (node_bytes s)) (slot1 s opening i (index_of c (siblings s ch i)))) (hides-is c ∙ o)
      ∙ ap (slot1 s opening i) (ap₂ index_of e siblings-is ∙ sibling-place d j l small h)
      ∙ sym (v.given l h)

  other-kids : (a : ℕ) (x : List ℕ) → is_ancestor a (up_from d j 0) ≡ false → children (primitives_of One) s iv a x ≡ Kids a x
  unfolding children prg prg1 children1 faest1 primitives_of reconstructed_children1
  other-kids a x o = sym (ap (λ (b : Bool). cond b (given_node1 s ch opening i (2 * a + 1) ++ given_node1 s ch opening i (2 * a + 2)) (children1 faest1 s iv a x)) (hides-is a ∙ o))

  way-kids : (a l : ℕ) (x : List ℕ) → a ≡ up_from d j (d - l) → given_node1 s ch opening i (2 * a + 1) ++ given_node1 s ch opening i (2 * a + 2) ≡ Kids a x
  unfolding reconstructed_children1
  way-kids a l x e =
      sym
      (ap (λ (b : Bool). cond b (given_node1 s ch opening i (2 * a + 1) ++ given_node1 s ch opening i (2 * a + 2)) (children1 faest1 s iv a x))
      (hides-is a ∙ ap (λ (n : ℕ). is_ancestor n (up_from d j 0)) e ∙ above d j (d - l) (omega arith)))

  -- the children of the node of the way at level l are written
  pub way-grown : (a l : ℕ) (old new : List ℕ) → l < d → a ≡ up_from d j (d - l) → CoveredPair w a (j / 2 ^ (d - 1 - l) % 2) (part slots (w * l) w) old new
      → take (w * (2 * a + 1)) old ≡ expand_tree w (zeros w) Kids a → take (w * (2 * (a + 1) + 1)) new ≡ expand_tree w (zeros w) Kids (a + 1)
  unfolding expand_tree
  way-grown a l old new h e p g =
      let b = j / 2 ^ (d - 1 - l) % 2 in
      let on = given-on (2 * a + 1 + b) (d - 1 - l) (omega arith) (child-on d j a l h e) in
      let sib = child-off d j a l h e in
      let off = given-off (2 * a + 2 - b) l h sib (ap (λ (n : ℕ). is_ancestor n (up_from d j 0)) sib ∙ off-way d j a l h e) in
      two-more w a new
      ∙ ap₂ ◌++◌ (p.front ∙ g)
      (both (λ c. part new (w * c) w) (given_node1 s ch opening i) a b (omega arith) (p.cleared ∙ sym on) (p.copied ∙ sym off) ∙ way-kids a l (part (expand_tree w (zeros w) Kids a) (w * a) w) e)
      ∙ ap (expand_tree w (zeros w) Kids) (sym (add-one a))

  -- the children of any other node are written
  pub other-grown : (a : ℕ) (old new : List ℕ) → is_ancestor a (up_from d j 0) ≡ false → w * (2 * a + 1) ≤ length old
      → new ≡ take (w * (2 * a + 1)) old ++ (children (primitives_of One) s iv a (part old (w * a) w) ++ drop (w * (2 * a + 3)) old)
      → take (w * (2 * a + 1)) old ≡ expand_tree w (zeros w) Kids a → take (w * (2 * (a + 1) + 1)) new ≡ expand_tree w (zeros w) Kids (a + 1)
  other-grown a old new o h e g =
      let x = part old (w * a) w in
      let k = other-kids a x o in
      ap (take (w * (2 * (a + 1) + 1))) (e ∙ ap (λ (y : List ℕ). take (w * (2 * a + 1)) old ++ (y ++ drop (w * (2 * a + 3)) old)) k)
      ∙ grown-more w (zeros w) Kids a old h (sym (ap length k) ∙ length-children (primitives_of One) s iv a x ∙ ap (λ (m : ℕ). 2 * m) (sym v.width)) g
