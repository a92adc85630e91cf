-- The parts of the buffers that a vector is lent: where each ends, its length, and strings put one behind another in this way; a buffer that was cleared
-- from a place on. By the laws of strings laid one after another.
use Prim.Native.Nat.{ℕ, ◌+◌, ◌-◌, ◌*◌, ◌^◌, ◌≤◌, ◌<◌}
use mathlib.Core.Path.{◌≡◌, refl, sym, ap, ap₂, ◌∙◌}
use mathlib.Core.Bool.{true}
use mathlib.Core.List.{List, [], ◌++◌}
use native.Mathlib.Nat.{mul-add, mul-le-mul, le_refl}
use native.Mathlib.Numerals.{add-one}
use native.Mathlib.Omega.{arith}
use lib.ListN.{length, get_or, take, drop, get_or-eq_default}
use lib.Seq.{take_all, length-take-le, get_or-take}
use mir.Syntax.{w64}
use mir.Val.{Fits}
use Rattle.spec.specs.declared.Shape.{Shape}
use Rattle.spec.specs.Bytes.{part, concat, zeros}
use Rattle.spec.specs.Shapes.{leaf_commitment_bytes, depth_of, entries_of, first_bit, first_entry, shape_ok, leaf_commitments_bytes, matrix_bytes}
use Rattle.laws.proofs.Lists.{length_part}
use Rattle.laws.proofs.Putting.{behind, put, put_next}
use Rattle.laws.proofs.Strings.{get_or-append-zeros}
use Rattle.laws.proofs.Concat.{part-whole, mul_next, mul-within}
use Rattle.laws.proofs.Segments.{segment-before}
use Rattle.planning_laws.proofs.Depths.{bit-next, entry_next}
use Rattle.planning_laws.proofs.ShapeFacts.{shape-facts, bit-all}
use Rattle.planning_laws.proofs.ShapeLaws.{shape-laws}

-- ---- string i, of w bytes, put behind the i before it, which end at p, in a part lent from v on; it ends at q

pub put-behind : (f : ℕ → List ℕ) (v p w q i : ℕ) (d y z : List ℕ) → v ≡ p → q ≡ p + w → q ≤ length d → length y ≡ w → y ≡ f i → take p d ≡ concat i f
    → take q (take v d ++ (y ++ z)) ≡ concat (i + 1) f
put-behind f v p w q i d y z ev eq hd hy e r =
    let a : take v d ++ (y ++ z) ≡ take p d ++ (f i ++ z) = ap₂ (λ (n : ℕ) (x : List ℕ). take n d ++ (x ++ z)) ev e in
    ap (λ (n : ℕ). take n (take v d ++ (y ++ z))) eq
    ∙ put_next f [] w i p d (take v d ++ (y ++ z)) z (omega arith) (sym (ap length e) ∙ hy) r a

-- string i of strings of w bytes
pub put-block : (f : ℕ → List ℕ) (w i : ℕ) (d y z : List ℕ) → w * i + w ≤ length d → length y ≡ w → y ≡ f i → take (w * i) d ≡ concat i f
    → take (w * (i + 1)) (take (w * i) d ++ (y ++ z)) ≡ concat (i + 1) f
put-block f w i d y z hd hy e r = (let n = mul_next w i in put-behind f (w * i) (w * i) w (w * (i + 1)) i d y z refl n (omega arith) hy e r)

-- all of them
pub put_all : (f : ℕ → List ℕ) (p n : ℕ) (d : List ℕ) → length d ≡ p → take p d ≡ concat n f → d ≡ concat n f
put_all f p n d l e = sym (take_all p d (omega arith)) ∙ e

-- ---- places and sizes

pub part-size : (at n : ℕ) → at + n - at ≡ n
part-size at n = omega arith

-- a part of n bytes, lent from v to w
pub lent : (v w n : ℕ) (l : List ℕ) → w ≡ v + n → w ≤ length l → length (part l v (w - v)) ≡ n
lent v w n l e h =
    let z : w - v ≡ n = omega arith in
    ap (λ (m : ℕ). length (part l v m)) z ∙ length_part l v n (omega arith)

pub lent-order : (v w n : ℕ) → w ≡ v + n → v ≤ w
lent-order v w n e = omega arith

-- string i of n, each of w bytes, ends within a buffer that has room for all
pub block-end : (w i n d : ℕ) → i < n → w * n ≤ d → w * i + w ≤ d
block-end w i n d h l = (let m = mul-within w i n h in omega arith)

-- the end of the last of h + 1 strings
pub last_end : (b h n : ℕ) → n ≡ b * (h + 1) → b * h + b ≤ n
last_end b h n e = block-end b h (h + 1) n (omega arith) (omega arith)

-- the start and the end of a part that is lent are numbers of a word
module _ (at n d : ℕ) (e : at + n ≤ d) (h : d < 2 ^ 64) where
  pub start_fits : Fits w64 at
  start_fits = record { fits = omega arith }

  pub end_fits : Fits w64 (at + n)
  end_fits = record { fits = omega arith }

-- ---- the parts of vector i: its leaf commitments from `leaf_commitment_bytes s * first_entry s i` on, its columns from `b * first_bit s i` on

module _ (s : Shape) (i : ℕ) where
  pub commitments-next : leaf_commitment_bytes s * first_entry s (i + 1) ≡ leaf_commitment_bytes s * first_entry s i + leaf_commitment_bytes s * entries_of s i
  commitments-next = ap (λ (n : ℕ). leaf_commitment_bytes s * n) (ap (first_entry s) (add-one i) ∙ entry_next s i) ∙ mul-add (leaf_commitment_bytes s) (first_entry s i) (entries_of s i)

  pub columns-next : (b : ℕ) → b * first_bit s (i + 1) ≡ b * first_bit s i + b * depth_of s i
  columns-next b = ap (λ (n : ℕ). b * n) (ap (first_bit s) (add-one i) ∙ bit-next s i) ∙ mul-add b (first_bit s i) (depth_of s i)

  -- as a part is lent, from v to w
  pub commitments-size : (v w : ℕ) → v ≡ leaf_commitment_bytes s * first_entry s i → w ≡ leaf_commitment_bytes s * first_entry s (i + 1) → w ≡ v + leaf_commitment_bytes s * entries_of s i
  commitments-size v w ev ew = (let n = commitments-next in omega arith)

  pub columns-size : (b v w : ℕ) → v ≡ b * first_bit s i → w ≡ b * first_bit s (i + 1) → w ≡ v + b * depth_of s i
  columns-size b v w ev ew = (let n = columns-next b in omega arith)

module _ (s : Shape) (ok : shape_ok s ≡ true) where
  -- those of all vectors; to the columns the last w are added
  pub all-commitments : leaf_commitment_bytes s * first_entry s s.tau ≡ leaf_commitments_bytes s
  unfolding leaf_commitments_bytes
  all-commitments = ap (λ (n : ℕ). leaf_commitment_bytes s * n) (shape-laws s ok).entry-all

  pub all-columns : (b : ℕ) → b * first_bit s s.tau + b * s.w ≡ matrix_bytes s b
  unfolding matrix_bytes
  all-columns b = sym (mul-add b (first_bit s s.tau) s.w) ∙ ap (λ (n : ℕ). b * n) (bit-all s (shape-facts s ok))

  -- each ends within its buffer: w is where, d the buffer's length
  pub commitments-end : (i w d : ℕ) → i < s.tau → w ≡ leaf_commitment_bytes s * first_entry s (i + 1) → d ≡ leaf_commitments_bytes s → w ≤ d
  commitments-end i w d h ew ed =
      let a = segment-before (first_entry s) (entries_of s) s.tau i (λ n l. entry_next s n) h in
      let e = ap (first_entry s) (add-one i) ∙ entry_next s i in
      let m : leaf_commitment_bytes s * first_entry s (i + 1) ≤ leaf_commitment_bytes s * first_entry s s.tau = mul-le-mul (le_refl (leaf_commitment_bytes s)) (omega arith) in
      omega (arith, all-commitments)

  pub columns-end : (b i w d : ℕ) → i < s.tau → w ≡ b * first_bit s (i + 1) → d ≡ matrix_bytes s b → w ≤ d
  columns-end b i w d h ew ed =
      let a = segment-before (first_bit s) (depth_of s) s.tau i (λ n l. bit-next s n) h in
      let e = ap (first_bit s) (add-one i) ∙ bit-next s i in
      let m : b * first_bit s (i + 1) ≤ b * first_bit s s.tau = mul-le-mul (le_refl b) (omega arith) in
      omega (arith, all-columns b)

-- ---- a buffer into which a string of w bytes was copied

pub copied : (at w : ℕ) (d y new : List ℕ) → length y ≡ w → new ≡ take at d ++ (part y 0 w ++ drop (at + w) d) → new ≡ put d at w y
copied at w d y new l e = e ∙ ap₂ (λ (v z : List ℕ). take at d ++ (v ++ z)) (part-whole y w l) (sym (behind at w d))

-- ---- a buffer that was cleared from a place on

module _ (at n : ℕ) (old new : List ℕ) (h : at ≤ length old) (e : new ≡ take at old ++ zeros n) where
  pub cleared-before : (q : ℕ) → q < at → get_or new q 0 ≡ get_or old q 0
  cleared-before q l = ap (λ (x : List ℕ). get_or x q 0) e ∙ get_or-append-zeros (take at old) n q ∙ get_or-take at old q 0 l

  pub cleared-behind : (q : ℕ) → at ≤ q → get_or new q 0 ≡ 0
  cleared-behind q l = ap (λ (x : List ℕ). get_or x q 0) e ∙ get_or-append-zeros (take at old) n q ∙ get_or-eq_default (take at old) 0 (omega (arith, length-take-le at old h))
