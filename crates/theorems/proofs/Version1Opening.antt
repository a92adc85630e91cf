-- The parts of an opening of version 1, made of trees and leaf commitments as lent: its length, its siblings, its hidden leaf commitments. By the laws of strings laid one after another.
use Prim.Native.Nat.{ℕ, suc, ◌+◌, ◌-◌, ◌*◌, ◌/◌, ◌^◌, ◌≤◌, ◌<◌}
use mathlib.Core.Path.{◌≡◌, ap, ◌∙◌, subst}
use mathlib.Core.List.{List}
use native.Mathlib.Nat.{mul-add, mul-zero, mul-le-mul, le_refl, two-pow-succ}
use native.Mathlib.Numerals.{add-one}
use native.Mathlib.Omega.{arith}
use lib.Bits.{xor_lt}
use lib.Pow.{pow_pos, pow-add, shr_lt}
use lib.ListN.{length, get_or, length-append}
use Rattle.spec.specs.declared.Shape.{Shape}
use Rattle.spec.specs.Bytes.{concat}
use Rattle.spec.specs.Shapes.{level, node_bytes, depth_of, entries_of, first_bit, first_entry, leaves, hidden_index}
use Rattle.spec.specs.Leaves.{node_at}
use Rattle.spec.specs.Version1.{first_node, leaf_commitment_bytes1, sibling_at, siblings, leaf_commitment_at1, decommitment, opening1_of, decommitment_from, slot1, hidden_leaf_commitment1, trees1_bytes, leaf_commitments1_bytes, opening1_bytes}
use Rattle.laws.proofs.Lists.{length_part, get_or-tabulate}
use Rattle.laws.proofs.Concat.{part-front, part-after, part-whole, laid-length, laid-part, even-length, even-part, mul-within}
use Rattle.laws.proofs.Segments.{segment-before}
use Rattle.planning_laws.proofs.Depths.{bit-none, bit-next, entry_next, entry-all}
use Rattle.planning_laws.proofs.ShapeFacts.{ShapeFacts, bit-all}
use Rattle.planning_laws.proofs.HiddenLeaves.{hidden-index-lt}
use Rattle.planning_laws.proofs.Forest.{node-next, node-all}

-- a sibling of level l + 1 lies on that level, from node 2^(l + 1) - 1 on
pub sibling-low : (d j l : ℕ) → 2 ^ (l + 1) - 1 ≤ sibling_at d j (l + 1)
unfolding sibling_at
sibling-low d j l = omega arith

pub sibling-high : (d j l : ℕ) → j < 2 ^ d → l < d → sibling_at d j (l + 1) < 2 ^ (l + 1) + 2 ^ (l + 1) - 1
unfolding sibling_at
sibling-high d j l h k =
    let r = d - (l + 1) in
    let whole : d ≡ l + 1 + r = omega arith in
    let q : j / 2 ^ r < 2 ^ (l + 1) = shr_lt (l + 1) r (subst (λ (n : ℕ). j < 2 ^ n) whole h) in
    let one : 1 < 2 ^ (l + 1) = (let a = ap (λ (n : ℕ). 2 ^ n) (add-one l) ∙ two-pow-succ l in let p = pow_pos l in omega arith) in
    let x = xor_lt (l + 1) (j / 2 ^ r) 1 q one in
    omega arith

-- and in its tree
sibling-in : (d j l : ℕ) → j < 2 ^ d → l < d → sibling_at d j (l + 1) < 2 * 2 ^ d - 1
unfolding sibling_at
sibling-in d j l h k =
    let r = d - (l + 1) in
    let e : 2 ^ d ≡ 2 ^ (l + 1) * 2 ^ r = ap (λ (n : ℕ). 2 ^ n) (let z : d ≡ l + 1 + r = omega arith in z) ∙ pow-add 2 (l + 1) r in
    let whole : d ≡ l + 1 + r = omega arith in
    let q : j / 2 ^ r < 2 ^ (l + 1) = shr_lt (l + 1) r (subst (λ (n : ℕ). j < 2 ^ n) whole h) in
    let one : 1 < 2 ^ (l + 1) = (let a = ap (λ (n : ℕ). 2 ^ n) (add-one l) ∙ two-pow-succ l in let p = pow_pos l in omega arith) in
    let x = xor_lt (l + 1) (j / 2 ^ r) 1 q one in
    let m : 2 ^ (l + 1) * 1 ≤ 2 ^ (l + 1) * 2 ^ r = mul-le-mul (le_refl (2 ^ (l + 1))) (pow_pos r) in
    omega arith

module _ (s : Shape) (f : ShapeFacts s) (ch trees lcs : List ℕ) (tl : length trees ≡ trees1_bytes s) (ll : length lcs ≡ leaf_commitments1_bytes s) where
  abbrev Part : ℕ → List ℕ
  Part = decommitment s ch trees lcs

  abbrev Shown : ℕ → ℕ → List ℕ
  Shown i l = node_at s trees (first_node s i + get_or (siblings s ch i) l 0)

  shown-long : (i l : ℕ) → i < s.tau → l < depth_of s i → length (Shown i l) ≡ node_bytes s
  unfolding entries_of node_at siblings trees1_bytes
  shown-long i l h k =
      let c = get_or (siblings s ch i) l 0 in
      let e = get_or-tabulate (depth_of s i) (λ l. sibling_at (depth_of s i) (hidden_index s ch i) (l + 1)) l 0 k in
      let b = sibling-in (depth_of s i) (hidden_index s ch i) l (hidden-index-lt s ch i) k in
      let a = segment-before (first_node s) (λ i. 2 * entries_of s i - 1) s.tau i (λ m q. node-next s f m) h in
      let t = node-all s f in
      let m = mul-within (node_bytes s) (first_node s i + c) (2 * leaves s - s.tau) (omega arith) in
      length_part trees (node_bytes s * (first_node s i + c)) (node_bytes s) (omega arith)

  leaf-long : (i : ℕ) → i < s.tau → length (leaf_commitment_at1 s lcs i (hidden_index s ch i)) ≡ leaf_commitment_bytes1 s
  unfolding leaf_commitment_at1 leaf_commitments1_bytes
  leaf-long i h =
      let a = segment-before (first_entry s) (entries_of s) s.tau i (λ m q. entry_next s m) h in
      let t = entry-all s (let z = f.few in omega arith) in
      let b = hidden-index-lt s ch i in
      let m = mul-within (leaf_commitment_bytes1 s) (first_entry s i + hidden_index s ch i) (leaves s) (omega arith) in
      length_part lcs (leaf_commitment_bytes1 s * (first_entry s i + hidden_index s ch i)) (leaf_commitment_bytes1 s) (omega arith)

  siblings-long : (i : ℕ) → i < s.tau → length (concat (depth_of s i) (Shown i)) ≡ node_bytes s * depth_of s i
  siblings-long i h = even-length (Shown i) (node_bytes s) (depth_of s i) (λ l k. shown-long i l h k)

  part-long : (i : ℕ) → i < s.tau → length (Part i) ≡ node_bytes s * depth_of s i + 2 * node_bytes s
  unfolding decommitment leaf_commitment_bytes1
  part-long i h = (let a = siblings-long i h in let b = leaf-long i h in simp length-append (omega arith))

  laid : (i : ℕ) → i < s.tau → decommitment_from s (suc i) ≡ decommitment_from s i + length (Part i)
  unfolding decommitment_from
  laid i h =
      let n = node_bytes s in
      let a = bit-next s i in
      let e : first_bit s (suc i) + 2 * suc i ≡ first_bit s i + 2 * i + (depth_of s i + 2) = omega arith in
      let b = mul-add n (first_bit s i + 2 * i) (depth_of s i + 2) in
      let c = mul-add n (depth_of s i) 2 in
      let d = part-long i h in
      ap (λ (m : ℕ). n * m) e ∙ omega arith

  none : decommitment_from s 0 ≡ 0
  unfolding decommitment_from
  none = ap (λ (m : ℕ). node_bytes s * m) (let e = bit-none s in let z : first_bit s 0 + 2 * 0 ≡ 0 = omega arith in z) ∙ mul-zero (node_bytes s)

  pub opening1-length : s.w ≡ 0 → length (opening1_of s ch trees lcs) ≡ opening1_bytes s
  unfolding opening1_of opening1_bytes decommitment_from
  opening1-length w =
      laid-length Part (decommitment_from s) none s.tau laid
      ∙ ap (λ (m : ℕ). node_bytes s * m) (let b = bit-all s f in let z : first_bit s s.tau + 2 * s.tau ≡ level s + 2 * s.tau = omega arith in z)

  pub slot_is : (i l : ℕ) → i < s.tau → l < depth_of s i → slot1 s (opening1_of s ch trees lcs) i l ≡ Shown i l
  unfolding opening1_of slot1 decommitment
  slot_is i l h k =
      let m = mul-within (node_bytes s) l (depth_of s i) k in
      let a = part-long i h in
      let b = siblings-long i h in
      laid-part Part (decommitment_from s) none s.tau i (node_bytes s * l) (node_bytes s) laid h (omega arith)
      ∙ part-front (concat (depth_of s i) (Shown i)) (leaf_commitment_at1 s lcs i (hidden_index s ch i)) (node_bytes s * l) (node_bytes s) (omega arith)
      ∙ even-part (Shown i) (node_bytes s) (depth_of s i) l (λ l k. shown-long i l h k) k

  pub hidden-is : (i : ℕ) → i < s.tau → hidden_leaf_commitment1 s (opening1_of s ch trees lcs) i ≡ leaf_commitment_at1 s lcs i (hidden_index s ch i)
  unfolding opening1_of hidden_leaf_commitment1 decommitment leaf_commitment_bytes1
  hidden-is i h =
      let a = part-long i h in
      let b = siblings-long i h in
      let c = leaf-long i h in
      laid-part Part (decommitment_from s) none s.tau i (node_bytes s * depth_of s i) (2 * node_bytes s) laid h (omega arith)
      ∙ part-after (concat (depth_of s i) (Shown i)) (leaf_commitment_at1 s lcs i (hidden_index s ch i)) (node_bytes s * depth_of s i) 0 (2 * node_bytes s) (omega arith)
      ∙ part-whole (leaf_commitment_at1 s lcs i (hidden_index s ch i)) (2 * node_bytes s) c
