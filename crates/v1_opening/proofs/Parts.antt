-- The parts of the trees, of the leaf commitments and of the opening that a vector is lent: where each ends, and that what is written of them is the vector's
-- decommitment. By the laws of strings laid one after another.
use Prim.Native.Nat.{ℕ, ◌+◌, ◌-◌, ◌*◌, ◌^◌, ◌≤◌, ◌<◌}
use mathlib.Core.Path.{◌≡◌, refl, sym, ap, ap₂, ◌∙◌}
use mathlib.Core.Bool.{true}
use mathlib.Core.List.{List, [], ◌++◌}
use native.Mathlib.Nat.{mul-add, mul-le-mul, le_refl}
use native.Mathlib.Numerals.{add-one}
use native.Mathlib.Omega.{arith}
use lib.ListN.{length, get_or, take}
use Rattle.spec.specs.declared.Shape.{Shape}
use Rattle.spec.specs.Bytes.{part, concat}
use Rattle.spec.specs.Shapes.{level, node_bytes, depth_of, entries_of, first_bit, first_entry, leaves, shape_ok, hidden_index}
use Rattle.spec.specs.Leaves.{node_at}
use Rattle.spec.specs.Version1.{first_node, leaf_commitment_bytes1, sibling_at, siblings, leaf_commitment_at1, decommitment, decommitment_from, trees1_bytes, leaf_commitments1_bytes, opening1_bytes}
use Rattle.laws.proofs.Concat.{concat-same, mul-within}
use Rattle.laws.proofs.Lists.{length_part, part-part, get_or-tabulate}
use Rattle.laws.proofs.Putting.{put_next}
use Rattle.laws.proofs.Segments.{segment-before}
use Rattle.planning_laws.proofs.Depths.{bit-next}
use Rattle.planning_laws.proofs.ShapeFacts.{shape-facts, bit-all}
use Rattle.planning_laws.proofs.HiddenLeaves.{hidden-index-lt}
use Rattle.planning_laws.proofs.Forest.{node-next, node-all}
use Rattle.v1_opening.proofs.Siblings.{sibling-in}

-- a part of n bytes, lent from v to w
pub lent : (v w n : ℕ) (l : List ℕ) → w ≡ v + n → w ≤ length l → length (part l v (w - v)) ≡ n
lent v w n l e h =
    let z : w - v ≡ n = omega arith in
    ap (λ (m : ℕ). length (part l v m)) z ∙ length_part l v n (omega arith)

-- string i, of w bytes, put behind the i before it, which end at p, in a part lent from v on; it ends at q
pub put-behind : (f : ℕ → List ℕ) (v p w q i : ℕ) (d y z : List ℕ) → v ≡ p → v + w ≡ q → v + w ≤ length d → length y ≡ w → y ≡ f i → take p d ≡ concat i f
    → take q (take v d ++ (y ++ z)) ≡ concat (i + 1) f
put-behind f v p w q i d y z ev eq hd hy e r =
    let a : take v d ++ (y ++ z) ≡ take p d ++ (f i ++ z) = ap₂ (λ (n : ℕ) (x : List ℕ). take n d ++ (x ++ z)) ev e in
    let end : q ≡ p + w = omega arith in
    ap (λ (n : ℕ). take n (take v d ++ (y ++ z))) end
    ∙ put_next f [] w i p d (take v d ++ (y ++ z)) z (omega arith) (sym (ap length e) ∙ hy) r a

module _ (s : Shape) (ok : shape_ok s ≡ true) (i : ℕ) (h : i < s.tau) where
  -- its tree, from node a to node b of all trees
  pub tree-part : (n d a b t : ℕ) → n ≡ node_bytes s → d ≡ depth_of s i → a ≡ first_node s i → b ≡ first_node s (i + 1) → t ≡ trees1_bytes s → (n * b ≡ n * a + n * (2 * 2 ^ d - 1)) × (n * b ≤ t)
  unfolding entries_of trees1_bytes
  tree-part n d a b t en ed ea eb et =
      let f = shape-facts s ok in
      let all = node-all s f in
      let before = segment-before (first_node s) (λ i. 2 * entries_of s i - 1) s.tau i (λ m q. node-next s f m) h in
      let here = ap (first_node s) (add-one i) ∙ node-next s f i in
      let pow : 2 ^ d ≡ 2 ^ depth_of s i = ap (λ (m : ℕ). 2 ^ m) ed in
      let size : b ≡ a + (2 * 2 ^ d - 1) = omega arith in
      let same : n * b ≡ node_bytes s * b = ap (λ (m : ℕ). m * b) en in
      let inside : node_bytes s * b ≤ node_bytes s * (2 * leaves s - s.tau) = mul-le-mul (le_refl (node_bytes s)) (omega arith) in
      (ap (λ (m : ℕ). n * m) size ∙ mul-add n a (2 * 2 ^ d - 1), omega arith)

  -- its part of the opening, from byte p to byte q
  pub opening-part : (n d p q o : ℕ) → s.w ≡ 0 → n ≡ node_bytes s → d ≡ depth_of s i → p ≡ decommitment_from s i → q ≡ decommitment_from s (i + 1) → o ≡ opening1_bytes s → (p + (n * d + 2 * n) ≡ q) × (q ≤ o)
  unfolding decommitment_from opening1_bytes
  opening-part n d p q o w en ed ep eq eo =
      let f = shape-facts s ok in
      let all = bit-all s f in
      let before = segment-before (first_bit s) (depth_of s) s.tau i (λ m l. bit-next s m) h in
      let here = ap (first_bit s) (add-one i) ∙ bit-next s i in
      let size : first_bit s (i + 1) + 2 * (i + 1) ≡ first_bit s i + 2 * i + (depth_of s i + 2) = omega arith in
      let own : n * d ≡ node_bytes s * depth_of s i = ap₂ ◌*◌ en ed in
      let sum = ap (λ (m : ℕ). node_bytes s * m) size ∙ mul-add (node_bytes s) (first_bit s i + 2 * i) (depth_of s i + 2) in
      let two = mul-add (node_bytes s) (depth_of s i) 2 in
      let inside : node_bytes s * (first_bit s (i + 1) + 2 * (i + 1)) ≤ node_bytes s * (level s + 2 * s.tau) = mul-le-mul (le_refl (node_bytes s)) (omega arith) in
      (omega arith, omega arith)

-- the leaf commitment of entry e
pub leaf-part : (s : Shape) (n e c : ℕ) → n ≡ node_bytes s → e < leaves s → c ≡ leaf_commitments1_bytes s → 2 * n * e + 2 * n ≤ c
unfolding leaf_commitment_bytes1 leaf_commitments1_bytes
leaf-part s n e c en h ec =
    let m = mul-within (2 * n) e (leaves s) h in
    let all : 2 * n * leaves s ≡ 2 * node_bytes s * leaves s = ap (λ (m : ℕ). 2 * m * leaves s) en in
    omega arith

-- ---- what is written of the parts

abbrev written : List ℕ → List ℕ → ℕ → ℕ → ℕ → ℕ → ℕ → ℕ → List ℕ
written trees lcs n d j a b e = concat d (λ l. part (part trees (n * a) (n * b - n * a)) (n * sibling_at d j (l + 1)) n) ++ part lcs (2 * n * e) (2 * n * e + 2 * n - 2 * n * e)

module _ (s : Shape) (ok : shape_ok s ≡ true) (i : ℕ) (h : i < s.tau) (ch trees lcs : List ℕ) (tl : length trees ≡ trees1_bytes s) where
  -- a sibling of vector i, found in the vector's part of the trees
  shown : (l : ℕ) → l < depth_of s i
      → part (part trees (node_bytes s * first_node s i) (node_bytes s * first_node s (i + 1) - node_bytes s * first_node s i)) (node_bytes s * sibling_at (depth_of s i) (hidden_index s ch i) (l + 1)) (node_bytes s)
      ≡ node_at s trees (first_node s i + get_or (siblings s ch i) l 0)
  unfolding entries_of node_at siblings
  shown l k =
      let n = node_bytes s in
      let d = depth_of s i in
      let j = hidden_index s ch i in
      let a = sibling_at d j (l + 1) in
      let t = tree-part s ok i h n d (first_node s i) (first_node s (i + 1)) (length trees) refl refl refl refl tl in
      let size : n * first_node s (i + 1) - n * first_node s i ≡ n * (2 * 2 ^ d - 1) = (let z = t.0 in omega arith) in
      let m = mul-within n a (2 * 2 ^ d - 1) (sibling-in d j l (hidden-index-lt s ch i) k) in
      let g = get_or-tabulate d (λ l. sibling_at d j (l + 1)) l 0 k in
      ap (λ (x : ℕ). part (part trees (n * first_node s i) x) (n * a) n) size
      ∙ part-part trees (n * first_node s i) (n * (2 * 2 ^ d - 1)) (n * a) n (let y = t.0 in let z = t.1 in omega arith) m
      ∙ ap (λ (x : ℕ). part trees x n) (sym (mul-add n (first_node s i) a))
      ∙ ap (λ (x : ℕ). part trees (n * (first_node s i + x)) n) (sym g)

  pub is-decommitment : (n d j a b e : ℕ) → n ≡ node_bytes s → d ≡ depth_of s i → j ≡ hidden_index s ch i → a ≡ first_node s i → b ≡ first_node s (i + 1) → e ≡ first_entry s i + j
      → written trees lcs n d j a b e ≡ decommitment s ch trees lcs i
  unfolding leaf_commitment_bytes1 leaf_commitment_at1 decommitment
  is-decommitment n d j a b e en ed ej ea eb ee =
      let N = node_bytes s in
      let D = depth_of s i in
      let J = hidden_index s ch i in
      let E = first_entry s i + J in
      let last : e ≡ E = ee ∙ ap (λ (x : ℕ). first_entry s i + x) ej in
      let size : 2 * N * E + 2 * N - 2 * N * E ≡ 2 * N = omega arith in
      ap₂ (λ (n d : ℕ). written trees lcs n d j a b e) en ed
      ∙ ap₂ (λ (j a : ℕ). written trees lcs N D j a b e) ej ea
      ∙ ap₂ (λ (b e : ℕ). written trees lcs N D J (first_node s i) b e) eb last
      ∙ ap₂ (λ (x : List ℕ) (m : ℕ). x ++ part lcs (2 * N * E) m) (concat-same _ (λ l. node_at s trees (first_node s i + get_or (siblings s ch i) l 0)) D shown) size
