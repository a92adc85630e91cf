-- The trees that the checking half of version 1 makes again of an opening: those of the signing half but for the nodes on the way to the hidden leaf of each vector, which are zeros. Each tree by `TreeAgain`; what it
-- asks for by the laws of the way to one leaf.
use Prim.Native.Nat.{ℕ, zero, suc, ◌+◌, ◌-◌, ◌*◌, ◌/◌, ◌^◌, ◌≤◌, ◌<◌}
use mathlib.Core.Path.{◌≡◌, sym, ap, ap₂, ◌∙◌}
use mathlib.Core.Bool.{Bool, true, false, ◌||◌, or-true, or-false}
use mathlib.Core.List.{List, [], ◌∷◌}
use native.Mathlib.Nat.{two-pow-succ}
use native.Mathlib.Numerals.{add-one}
use native.Mathlib.Omega.{arith}
use lib.Bits.{bit_xor}
use lib.Pow.{pow_pos, pow_mono}
use lib.ListN.{length}
use Rattle.spec.specs.declared.Shape.{Shape}
use Rattle.spec.specs.Bytes.{part, tabulate, zeros, index_of}
use Rattle.spec.specs.Tree.{is_ancestor, some, covered}
use Rattle.spec.specs.Shapes.{node_bytes, depth_of, entries_of, hidden_index}
use Rattle.spec.specs.Primitives.{Primitives, prg}
use Rattle.spec.specs.Leaves.{node_at}
use Rattle.spec.specs.Version1.{prg1, vector_root, children1, vector_tree, signer_trees, first_node, leaf_in, sibling_at, siblings, opening1_of, slot1, on_path, given_node1, reconstructed_children1, reconstructed_vector_tree, reconstructed_trees, trees1_bytes, leaf_commitments1_bytes}
use Rattle.laws.proofs.Lists.{length-tabulate, length_part, length-zeros, get_or-tabulate}
use Rattle.laws.proofs.Concat.{mul-within}
use Rattle.planning_laws.proofs.Covered.{covered-inner, root-covered}
use Rattle.planning_laws.proofs.ExpandTree.{expand-length}
use Rattle.planning_laws.proofs.HiddenLeaves.{hidden-index-lt}
use Rattle.planning_laws.proofs.ShapeFacts.{ShapeFacts}
use Rattle.planning_laws.proofs.Forest.{trees-length, forest-node}
use Rattle.planning_laws.proofs.Path.{up_from, leaf-is, way, left-sibling, right-sibling, index-of}
use Rattle.planning_laws.proofs.TreeAgain.{again, Revealing, again-long, nodes-same, nodes-zero}
use Rattle.theorems.proofs.Version1Opening.{sibling-low, sibling-high, slot_is}

-- two levels' nodes fit below the next
twice-le : (m l : ℕ) → m < l → 2 ^ (m + 1) + 2 ^ (m + 1) ≤ 2 ^ (l + 1)
twice-le m l h = (let a = ap (λ (n : ℕ). 2 ^ n) (add-one (m + 1)) ∙ two-pow-succ (m + 1) in let b = pow_mono {i = m + 1 + 1} {j = l + 1} (omega arith) in omega arith)

module _ (P : Primitives) (s : Shape) (f : ShapeFacts s) (root iv ch lcs : List ℕ) (ll : length lcs ≡ leaf_commitments1_bytes s) where
  abbrev Trees : List ℕ
  Trees = signer_trees P s root iv

  abbrev Op : List ℕ
  Op = opening1_of s ch (signer_trees P s root iv) lcs

  prg-long : (key : List ℕ) (n : ℕ) → length (prg1 P s key iv n) ≡ n
  unfolding prg prg1
  prg-long key n = length-tabulate n _

  root-long : (i : ℕ) → i < s.tau → length (vector_root P s root iv i) ≡ node_bytes s
  unfolding vector_root
  root-long i h = (let a = prg-long root (node_bytes s * s.tau) in let m = mul-within (node_bytes s) i s.tau h in length_part (prg1 P s root iv (node_bytes s * s.tau)) (node_bytes s * i) (node_bytes s) (omega arith))

  kids-long : (N a : ℕ) → a < N → (x : List ℕ) → length (children1 P s iv a x) ≡ 2 * node_bytes s
  unfolding children1
  kids-long N a h x = prg-long x (2 * node_bytes s)

  some-entry : (i : ℕ) → 1 ≤ entries_of s i
  unfolding entries_of
  some-entry i = pow_pos (depth_of s i)

  tree-long : (i : ℕ) → i < s.tau → length (vector_tree P s root iv i) ≡ node_bytes s * (2 * entries_of s i - 1)
  unfolding vector_tree
  tree-long i h =
      expand-length (node_bytes s) (vector_root P s root iv i) (children1 P s iv) (entries_of s i - 1) (root-long i h) (kids-long (entries_of s i - 1)) (entries_of s i - 1) (omega arith)
      ∙ ap (λ (n : ℕ). node_bytes s * n) (let p = some-entry i in let z : 2 * (entries_of s i - 1) + 1 ≡ 2 * entries_of s i - 1 = omega arith in z)

  pub trees-long : length Trees ≡ trees1_bytes s
  unfolding signer_trees
  trees-long = trees-length s f (vector_tree P s root iv) tree-long

  module _ (i : ℕ) (h : i < s.tau) where
    abbrev d : ℕ
    d = depth_of s i

    abbrev j : ℕ
    j = hidden_index s ch i

    abbrev Given : ℕ → List ℕ
    Given c = slot1 s Op i (index_of c (siblings s ch i))

    small : j < 2 ^ d
    unfolding entries_of
    small = hidden-index-lt s ch i

    leaf : leaf_in s i j ≡ up_from d j 0
    unfolding leaf_in entries_of
    leaf = sym (leaf-is d j)

    hides-is : (a : ℕ) → on_path s ch i a ≡ is_ancestor a (up_from d j 0)
    unfolding on_path covered some
    hides-is a = or-false (is_ancestor a (leaf_in s i j)) ∙ ap (is_ancestor a) leaf

    inner : (a : ℕ) → a < entries_of s i - 1 → on_path s ch i a ≡ (on_path s ch i (2 * a + 1) || on_path s ch i (2 * a + 2))
    unfolding on_path leaf_in
    inner a k = (let q = hidden-index-lt s ch i in covered-inner (entries_of s i) a (leaf_in s i j ∷ []) (omega arith, omega arith, tt) (omega arith))

    -- the sibling at place l is given as the signer's node
    given-at : (l c : ℕ) → l < d → c ≡ sibling_at d j (l + 1) → Given c ≡ part (vector_tree P s root iv i) (node_bytes s * c) (node_bytes s)
    unfolding siblings entries_of signer_trees
    given-at l c k e =
        let sib : ℕ → ℕ = λ l. sibling_at d j (l + 1) in
        let at : index_of c (siblings s ch i) ≡ l = ap (λ (x : ℕ). index_of x (tabulate d sib)) e ∙ index-of d sib l k (λ m n q. (let a = sibling-high d j m small (omega arith) in let b = sibling-low d j l in let z = twice-le m l n in omega arith)) in
        let there = get_or-tabulate d sib l 0 k in
        let low : c < 2 * 2 ^ d - 1 = (let a = sibling-high d j l small k in let z = pow_mono {i = l + 1} {j = d} (omega arith) in omega arith) in
        ap (slot1 s Op i) at
        ∙ slot_is s f ch Trees lcs trees-long ll i l h k
        ∙ ap (λ (x : ℕ). node_at s Trees (first_node s i + x)) (there ∙ sym e)
        ∙ forest-node s f (vector_tree P s root iv) tree-long i c h low

    sibling-as : (m : ℕ) → m < d → 2 ^ (d - m) - 1 + bit_xor (j / 2 ^ m) 1 ≡ sibling_at d j (d - m - 1 + 1)
    unfolding sibling_at
    sibling-as m k = ap₂ (λ (x y : ℕ). 2 ^ x - 1 + bit_xor (j / 2 ^ y) 1) (let z : d - m ≡ d - m - 1 + 1 = omega arith in z) (let z : m ≡ d - (d - m - 1 + 1) = omega arith in z)

    -- a node of the way that is no leaf
    inside : (a : ℕ) → a < entries_of s i - 1 → on_path s ch i a ≡ true → (m : ℕ) × (m < d) × (a ≡ up_from d j (suc m))
    unfolding entries_of
    inside a k t = go (way d j small d 0 a (omega arith) (let z = leaf-is d j in omega arith) (sym (hides-is a) ∙ t))
      where
        go : (n : ℕ) × (n ≤ d) × (a ≡ up_from d j n) → (m : ℕ) × (m < d) × (a ≡ up_from d j (suc m))
        go (zero, l, e) = absurd (let z = leaf-is d j in omega arith)
        go (suc m, l, e) = (m, omega arith, e)

    left-given : (a : ℕ) → a < entries_of s i - 1 → on_path s ch i a ≡ true → on_path s ch i (2 * a + 1) ≡ false → Given (2 * a + 1) ≡ part (vector_tree P s root iv i) (node_bytes s * (2 * a + 1)) (node_bytes s)
    left-given a k t o =
        let w = inside a k t in
        let m = w.0 in
        let e = w.2 in
        let off = ap (λ (x : ℕ). is_ancestor (2 * x + 1) (up_from d j 0)) (sym e) ∙ sym (hides-is (2 * a + 1)) ∙ o in
        given-at (d - m - 1) (2 * a + 1) (let z = w.1 in omega arith) (ap (λ (x : ℕ). 2 * x + 1) e ∙ left-sibling d j m w.1 off ∙ sibling-as m w.1)

    right-given : (a : ℕ) → a < entries_of s i - 1 → on_path s ch i a ≡ true → on_path s ch i (2 * a + 2) ≡ false → Given (2 * a + 2) ≡ part (vector_tree P s root iv i) (node_bytes s * (2 * a + 2)) (node_bytes s)
    right-given a k t o =
        let w = inside a k t in
        let m = w.0 in
        let e = w.2 in
        let off = ap (λ (x : ℕ). is_ancestor (2 * x + 2) (up_from d j 0)) (sym e) ∙ sym (hides-is (2 * a + 2)) ∙ o in
        given-at (d - m - 1) (2 * a + 2) (let z = w.1 in omega arith) (ap (λ (x : ℕ). 2 * x + 2) e ∙ right-sibling d j m w.1 off ∙ sibling-as m w.1)

    root-hides : on_path s ch i 0 ≡ true
    unfolding on_path
    root-hides = root-covered (leaf_in s i j) []

    revealing : Revealing (node_bytes s) (entries_of s i - 1) (vector_root P s root iv i) (children1 P s iv) (on_path s ch i) Given
    unfolding vector_tree
    revealing =
        record {
          root-long = root-long i h;
          kids-long = kids-long (entries_of s i - 1);
          root-hides = root-hides;
          above-left = λ a k e. inner a k ∙ ap (λ (b : Bool). b || on_path s ch i (2 * a + 2)) e;
          above-right = λ a k e. inner a k ∙ ap (λ (b : Bool). on_path s ch i (2 * a + 1) || b) e ∙ or-true (on_path s ch i (2 * a + 1));
          left-given = left-given;
          right-given = right-given;
        }

    -- the tree of vector i, made again
    tree-same : (a : ℕ) → a < 2 * entries_of s i - 1 → on_path s ch i a ≡ false
        → part (reconstructed_vector_tree P s iv ch Op i) (node_bytes s * a) (node_bytes s) ≡ part (vector_tree P s root iv i) (node_bytes s * a) (node_bytes s)
    unfolding vector_tree given_node1 reconstructed_children1 reconstructed_vector_tree
    tree-same a k o =
        let p = some-entry i in
        nodes-same (node_bytes s) (entries_of s i - 1) (vector_root P s root iv i) (children1 P s iv) (on_path s ch i) Given revealing (entries_of s i - 1) (omega arith) a (omega arith) o

    tree-zero : (a : ℕ) → a < 2 * entries_of s i - 1 → on_path s ch i a ≡ true → part (reconstructed_vector_tree P s iv ch Op i) (node_bytes s * a) (node_bytes s) ≡ zeros (node_bytes s)
    unfolding given_node1 reconstructed_children1 reconstructed_vector_tree
    tree-zero a k o =
        let p = some-entry i in
        nodes-zero (node_bytes s) (entries_of s i - 1) (vector_root P s root iv i) (children1 P s iv) (on_path s ch i) Given revealing (entries_of s i - 1) (omega arith) a (omega arith) o

    again-length : length (reconstructed_vector_tree P s iv ch Op i) ≡ node_bytes s * (2 * entries_of s i - 1)
    unfolding given_node1 reconstructed_children1 reconstructed_vector_tree
    again-length =
        expand-length (node_bytes s) (zeros (node_bytes s)) (again (node_bytes s) (on_path s ch i) Given (children1 P s iv)) (entries_of s i - 1) (length-zeros (node_bytes s))
        (again-long (node_bytes s) (entries_of s i - 1) (vector_root P s root iv i) (children1 P s iv) (on_path s ch i) Given revealing) (entries_of s i - 1) (omega arith)
        ∙ ap (λ (n : ℕ). node_bytes s * n) (let p = some-entry i in let z : 2 * (entries_of s i - 1) + 1 ≡ 2 * entries_of s i - 1 = omega arith in z)

  -- ---- all trees, as the claim says it

  pub nodes-again : (i a : ℕ) → i < s.tau → a < 2 * entries_of s i - 1 → on_path s ch i a ≡ false → node_at s (reconstructed_trees P s iv ch Op) (first_node s i + a) ≡ node_at s Trees (first_node s i + a)
  unfolding signer_trees reconstructed_trees
  nodes-again i a h k o =
      forest-node s f (reconstructed_vector_tree P s iv ch Op) again-length i a h k ∙ tree-same i h a k o ∙ sym (forest-node s f (vector_tree P s root iv) tree-long i a h k)

  pub nodes-hidden : (i a : ℕ) → i < s.tau → a < 2 * entries_of s i - 1 → on_path s ch i a ≡ true → node_at s (reconstructed_trees P s iv ch Op) (first_node s i + a) ≡ zeros (node_bytes s)
  unfolding reconstructed_trees
  nodes-hidden i a h k o = forest-node s f (reconstructed_vector_tree P s iv ch Op) again-length i a h k ∙ tree-zero i h a k o
