-- Version 1: the trees of the vectors one behind another. Where the leaves of a vector stand in them. From the places of the entries: each vector has one at least.
use Prim.Native.Nat.{ℕ, suc, ◌+◌, ◌-◌, ◌*◌, ◌^◌, ◌≤◌, ◌<◌, min}
use mathlib.Core.Path.{◌≡◌, refl, sym, ap, ◌∙◌}
use mathlib.Core.List.{List}
use native.Mathlib.Nat.{add-mul, mul-add, mul-zero, mul-one, mul-le-mul, le_refl}
use native.Mathlib.Numerals.{add-one}
use native.Mathlib.Omega.{arith}
use lib.ListN.{length}
use lib.Pow.{pow_pos}
use Rattle.spec.specs.Bytes.{part, concat}
use Rattle.spec.specs.declared.Shape.{Shape}
use Rattle.spec.specs.Shapes.{node_bytes, deeper, depth_of, entries_of, first_entry, leaves}
use Rattle.spec.specs.Leaves.{node_at}
use Rattle.spec.specs.Version1.{first_node, leaf_in, trees1_bytes}
use Rattle.laws.proofs.Concat.{laid-length, laid-part, mul-within}
use Rattle.planning_laws.proofs.Depths.{entry-none, entry_next, entry-all}
use Rattle.planning_laws.proofs.ShapeFacts.{ShapeFacts, leaves-max}

grows : (a b d p : ℕ) → b + d ≤ a → 1 ≤ p → b * p + d ≤ a * p
grows a b d p h k =
    let m : (b + d) * p ≤ a * p = mul-le-mul h (le_refl p) in
    let e = add-mul b d p in
    let n : d * 1 ≤ d * p = mul-le-mul (le_refl d) k in
    omega (arith, mul-one d)

module _ (s : Shape) (f : ShapeFacts s) where
  -- the vectors before vector i have i entries at least, and those from it on as many as they are
  pub entries-before : (i : ℕ) → i ≤ first_entry s i
  unfolding first_entry
  entries-before i = (let m = grows (i + min i (deeper s)) 0 i (2 ^ s.k) (omega arith) (pow_pos s.k) in omega arith)

  pub entries-after : (i : ℕ) → i ≤ s.tau → first_entry s i + (s.tau - i) ≤ leaves s
  unfolding first_entry leaves
  entries-after i h = (let r = f.few in grows (s.tau + deeper s) (i + min i (deeper s)) (s.tau - i) (2 ^ s.k) (omega arith) (pow_pos s.k))

  -- the leaf of entry j of vector i lies within the trees
  pub forest-leaf : (i j : ℕ) → i < s.tau → j < entries_of s i → (first_node s i + leaf_in s i j + s.tau < 2 * leaves s) × (first_node s i + leaf_in s i j < 172032)
  unfolding first_node leaf_in
  forest-leaf i j h l =
      let a = entries-before i in
      let b = entries-after (i + 1) (omega arith) in
      let e = ap (first_entry s) (add-one i) ∙ entry_next s i in
      let m = leaves-max s f in
      (omega arith, omega arith)

  -- ---- the trees, one behind another

  pub node-none : first_node s 0 ≡ 0
  unfolding first_node
  node-none = (let e = entry-none s in omega arith)

  pub node-next : (i : ℕ) → first_node s (suc i) ≡ first_node s i + (2 * entries_of s i - 1)
  unfolding first_node entries_of
  node-next i =
      let a = entries-before i in
      let e = entry_next s i in
      let p = pow_pos (depth_of s i) in
      let q : entries_of s i ≡ 2 ^ depth_of s i = refl in
      omega arith

  pub node-all : first_node s s.tau ≡ 2 * leaves s - s.tau
  unfolding first_node
  node-all = ap (λ (n : ℕ). 2 * n - s.tau) (entry-all s (let h = f.few in omega arith))

  -- node a of the tree of vector i
  module _ (tree : ℕ → List ℕ) (long : (i : ℕ) → i < s.tau → length (tree i) ≡ node_bytes s * (2 * entries_of s i - 1)) where
    laid : (i : ℕ) → i < s.tau → node_bytes s * first_node s (suc i) ≡ node_bytes s * first_node s i + length (tree i)
    laid i h = ap (λ (n : ℕ). node_bytes s * n) (node-next i) ∙ mul-add (node_bytes s) (first_node s i) (2 * entries_of s i - 1) ∙ ap (λ (n : ℕ). node_bytes s * first_node s i + n) (sym (long i h))

    none : node_bytes s * first_node s 0 ≡ 0
    none = ap (λ (n : ℕ). node_bytes s * n) node-none ∙ mul-zero (node_bytes s)

    pub trees-length : length (concat s.tau tree) ≡ trees1_bytes s
    unfolding trees1_bytes
    trees-length = laid-length tree (λ i. node_bytes s * first_node s i) none s.tau laid ∙ ap (λ (n : ℕ). node_bytes s * n) node-all

    pub forest-node : (i a : ℕ) → i < s.tau → a < 2 * entries_of s i - 1 → node_at s (concat s.tau tree) (first_node s i + a) ≡ part (tree i) (node_bytes s * a) (node_bytes s)
    unfolding node_at
    forest-node i a h l =
        let m = mul-within (node_bytes s) a (2 * entries_of s i - 1) l in
        let e = long i h in
        ap (λ (n : ℕ). part (concat s.tau tree) n (node_bytes s)) (mul-add (node_bytes s) (first_node s i) a)
        ∙ laid-part tree (λ i. node_bytes s * first_node s i) none s.tau i (node_bytes s * a) (node_bytes s) laid h (omega arith)
