-- The correction of a vector, its columns with the correction, and the matrix with one vector more corrected. By the laws of columns and of strings laid one
-- after another.
use mathlib.Core.Path.{◌≡◌, refl, sym, ap, ap₂, ◌∙◌, subst}
use mathlib.Core.Bool.{true}
use mathlib.Core.List.{List, ◌++◌, append_assoc}
use Prim.Native.Nat.{ℕ, zero, suc, ◌+◌, ◌-◌, ◌*◌, ◌≤◌, ◌<◌}
use native.Mathlib.Nat.{add-zero, mul-zero, mul-add}
use native.Mathlib.Omega.{arith}
use lib.Bits.{bit_xor}
use lib.ListN.{length, get_or, take, drop, length-append, take-append-drop}
use lib.Seq.{length-take-le, drop_at, drop-drop}
use Rattle.spec.specs.declared.Shape.{Shape}
use Rattle.spec.specs.Bytes.{bit, part, concat, zeros}
use Rattle.spec.specs.Shapes.{depth_of, first_bit, hidden_index, shape_ok, matrix_bytes}
use Rattle.spec.specs.Rows.{column_byte, matrix_of}
use Rattle.spec.specs.Verifier.{correction_byte, verifier_column}
use Rattle.laws.proofs.Lists.{length-tabulate, get_or-part}
use Rattle.laws.proofs.Segments.{segment-before}
use Rattle.laws.proofs.Concat.{part-front, part-whole, laid-length, laid-part, even-length, concat-byte, is-concat}
use Rattle.planning_laws.proofs.Depths.{bit-none, bit-next}
use Rattle.planning_laws.proofs.ShapeFacts.{shape-facts}
use Rattle.planning_laws.proofs.ShapeLaws.{hidden-bit}
use Rattle.columns.specs.Columns.{Added}
use Rattle.columns.proofs.Adding.{added_none, added-same}
use Rattle.vector.proofs.Buffers.{put-behind, columns-next, columns-end}
use Rattle.verifier_vector.specs.Vector.{uncorrected}
use Rattle.verifier_vectors.specs.Corrections.{Corrected}

-- ---- the correction

module _ (s : Shape) (b : ℕ) (ch corrections : List ℕ) where
  -- a vector from 1 on has its part, under the number that the challenge hides
  correction-byte : (i d j p : ℕ) → 1 ≤ i → d ≡ hidden_index s ch i → j < depth_of s i → p < b
      → bit j d * get_or (part corrections (b * (i - 1)) b) p 0 ≡ correction_byte s b ch corrections i j p
  unfolding correction_byte
  correction-byte zero d j p h hd hj hp = absurd (omega arith)
  correction-byte (suc i) d j p h hd hj hp =
      let e : suc i - 1 ≡ i = omega arith in
      ap₂ (λ (x y : ℕ). x * y) (ap (bit j) hd ∙ hidden-bit s ch (suc i) j hj)
      (get_or-part corrections (b * (suc i - 1)) b p hp ∙ ap (λ (n : ℕ). get_or corrections (b * n + p) 0) e)

  pub corrected : (i d : ℕ) (old new : List ℕ) → 1 ≤ i → d ≡ hidden_index s ch i
      → Added b (depth_of s i) (λ j p. bit j d * get_or (part corrections (b * (i - 1)) b) p 0) old new → Added b (depth_of s i) (correction_byte s b ch corrections i) old new
  corrected i d old new h hd x =
      added-same b (depth_of s i) (λ j p. bit j d * get_or (part corrections (b * (i - 1)) b) p 0) (correction_byte s b ch corrections i) old new
      (λ j p hj hp. correction-byte i d j p h hd hj hp) x

-- ---- the matrix

module _ (s : Shape) (b : ℕ) (row : ℕ → ℕ → ℕ → ℕ) (ch corrections : List ℕ) where
  -- the columns of vector i without the correction, and with it
  abbrev Plain : ℕ → List ℕ
  Plain i = concat (depth_of s i) (uncorrected s b row ch i)

  abbrev Right : ℕ → List ℕ
  Right i = concat (depth_of s i) (verifier_column s b row ch corrections i)

  right-columns : (i : ℕ) (old new : List ℕ) → length old ≡ b * depth_of s i → old ≡ Plain i → Added b (depth_of s i) (correction_byte s b ch corrections i) old new → new ≡ Right i
  unfolding verifier_column uncorrected
  right-columns i old new l e x =
      let own : ℕ → ℕ → ℕ = column_byte s row (λ e. bit_xor e (hidden_index s ch i)) i in
      is-concat b (depth_of s i) (λ j p. bit_xor (own j p) (correction_byte s b ch corrections i j p)) new (x.size ∙ l)
      (λ j p hj hp.
      x.known j p hj hp
      ∙ ap (λ (y : ℕ). bit_xor y (correction_byte s b ch corrections i j p)) (ap (λ (y : List ℕ). get_or y (b * j + p) 0) e ∙ concat-byte b (depth_of s i) own j p hj hp))

  plain-length : (i : ℕ) → length (Plain i) ≡ b * depth_of s i
  unfolding uncorrected
  plain-length i = even-length (uncorrected s b row ch i) b (depth_of s i) (λ j h. rw length-tabulate)

  at_none : b * first_bit s 0 ≡ 0
  at_none = ap (λ (n : ℕ). b * n) (bit-none s) ∙ mul-zero b

  laid : (i : ℕ) → i < s.tau → b * first_bit s (suc i) ≡ b * first_bit s i + length (Plain i)
  laid i h = ap (λ (n : ℕ). b * n) (bit-next s i) ∙ mul-add b (first_bit s i) (depth_of s i) ∙ ap (λ (n : ℕ). b * first_bit s i + n) (sym (plain-length i))

  plain-all : length (concat s.tau Plain) ≡ b * first_bit s s.tau
  plain-all = laid-length Plain (λ i. b * first_bit s i) at_none s.tau laid

  plain-part : (i : ℕ) → i < s.tau → part (matrix_of s b (uncorrected s b row ch)) (b * first_bit s i) (b * depth_of s i) ≡ Plain i
  unfolding matrix_of
  plain-part i h =
      let size = plain-length i in
      let end = segment-before (λ i. b * first_bit s i) (λ i. length (Plain i)) s.tau i laid h in
      part-front (concat s.tau Plain) (zeros (b * s.w)) (b * first_bit s i) (b * depth_of s i) (omega (arith, plain-all))
      ∙ ap (λ (n : ℕ). part (concat s.tau Plain) n (b * depth_of s i)) (sym (add-zero (b * first_bit s i)))
      ∙ laid-part Plain (λ i. b * first_bit s i) at_none s.tau i 0 (b * depth_of s i) laid h (omega arith)
      ∙ part-whole (Plain i) (b * depth_of s i) size

  -- the part of vector i, lent from v to w, comes back as y
  pub corrected-more : (i v w : ℕ) (q y : List ℕ) → i < s.tau → v ≡ b * first_bit s i → w ≡ v + b * depth_of s i → w ≤ length q
      → Added b (depth_of s i) (correction_byte s b ch corrections i) (part q v (w - v)) y → Corrected s b row ch corrections i q
      → Corrected s b row ch corrections (i + 1) (take v q ++ (y ++ drop (w - v) (drop v q)))
  corrected-more i v w q y h ev ew hw x r =
      let k : w - v ≡ b * depth_of s i = omega arith in
      let there : part q v (w - v) ≡ Plain i = ap₂ (λ (n m : ℕ). part q n m) ev k ∙ ap (take (b * depth_of s i)) r.rest ∙ plain-part i h in
      let long : length y ≡ b * depth_of s i = x.size ∙ ap length there ∙ plain-length i in
      let next = columns-next s i b in
      let z = drop (w - v) (drop v q) in
      let front = length-take-le v q (omega arith) in
      record {
        front = put-behind Right v (b * first_bit s i) (b * depth_of s i) (b * first_bit s (i + 1)) i q y z ev next (omega arith) long (right-columns i (part q v (w - v)) y (ap length there ∙ plain-length i) there x) r.front;
        rest =
            ap (drop (b * first_bit s (i + 1))) (sym (append_assoc (take v q) y z))
            ∙ drop_at (take v q ++ y) z (b * first_bit s (i + 1)) (length-append (take v q) y ∙ omega arith)
            ∙ ap (drop (w - v)) (ap (λ (n : ℕ). drop n q) ev ∙ r.rest)
            ∙ drop-drop (w - v) (b * first_bit s i) (matrix_of s b (uncorrected s b row ch))
            ∙ ap (λ (n : ℕ). drop n (matrix_of s b (uncorrected s b row ch))) (let e : b * first_bit s i + (w - v) ≡ b * first_bit s (i + 1) = omega arith in e);
      }

  -- vector 0 has no correction
  pub corrected-start : shape_ok s ≡ true → (q : List ℕ) → length q ≡ matrix_bytes s b → q ≡ matrix_of s b (uncorrected s b row ch) → Corrected s b row ch corrections 1 q
  unfolding concat correction_byte
  corrected-start ok q l e =
      let v = b * first_bit s 0 in
      let k = b * depth_of s 0 in
      let none : Corrected s b row ch corrections 0 q = record { front = ap (λ (n : ℕ). take n q) at_none; rest = ap (drop v) e } in
      let w = columns-end s ok b 0 (v + k) (length q) (shape-facts s ok).tau-pos (sym (columns-next s 0 b)) l in
      subst (Corrected s b row ch corrections 1) (ap (λ (x : List ℕ). take v q ++ x) (take-append-drop (v + k - v) (drop v q)) ∙ take-append-drop v q)
      (corrected-more 0 v (v + k) q (part q v (v + k - v)) (shape-facts s ok).tau-pos refl refl w (added_none b (depth_of s 0) (part q v (v + k - v)) (correction_byte s b ch corrections 0) (λ j p hj hp. refl)) none)

  pub corrected-all : (q : List ℕ) → Corrected s b row ch corrections s.tau q → q ≡ matrix_of s b (verifier_column s b row ch corrections)
  unfolding matrix_of
  corrected-all q r =
      sym (take-append-drop (b * first_bit s s.tau) q)
      ∙ ap₂ (λ (x y : List ℕ). x ++ y) r.front (r.rest ∙ drop_at (concat s.tau Plain) (zeros (b * s.w)) (b * first_bit s s.tau) plain-all)
