-- The column rule for rows of b bytes: `row` gives the signer's rows, `row'` the verifier's, and they agree but for the hidden entries. A column at a byte by the laws
-- of `Columns`; a matrix by its columns.
use Prim.Native.Nat.{ℕ, zero, suc, ◌+◌, ◌-◌, ◌*◌, ◌<◌}
use mathlib.Core.Path.{◌≡◌, sym, ap, ap₂, ◌∙◌}
use mathlib.Core.Bool.{true}
use mathlib.Core.List.{List}
use native.Mathlib.Omega.{arith}
use native.Mathlib.Nat.{zero-mul, one-mul}
use native.Mathlib.Numerals.{add-one}
use native.Mathlib.Decide.{dec_lt}
use lib.Bits.{bit_xor, xor_zero_r}
use lib.ListN.{length, get_or}
use Rattle.spec.specs.declared.Shape.{Shape}
use Rattle.spec.specs.Bytes.{bit, part, tabulate, concat, xor_bytes, xor_below}
use Rattle.spec.specs.Challenge.{bit_at}
use Rattle.spec.specs.Shapes.{level, depth_of, entries_of, first_bit, hidden_index, corrections_bytes, grinding_ok}
use Rattle.spec.specs.Rows.{u_byte, column_byte, matrix_of}
use Rattle.spec.specs.Signer.{signer_u, signer_column, correction, corrections}
use Rattle.spec.specs.Verifier.{correction_byte, verifier_column}
use Rattle.laws.proofs.Lists.{length-tabulate, get_or-tabulate, tabulate-same, tabulate-xor, get_or-part}
use Rattle.laws.proofs.Concat.{even-length, even-part}
use Rattle.planning_laws.proofs.ShapeLaws.{ShapeLaws, hidden-bit, grinding-bit}
use Rattle.theorems.specs.Demands.{ColumnRule}
use Rattle.theorems.proofs.Columns.{hidden-column, hidden-unused, corrected-column}
use Rattle.theorems.proofs.Buffers.{matrix-column, matrix-rest, find}

pub corrections-length : (s : Shape) (b : ℕ) (row : ℕ → ℕ → ℕ → ℕ) → length (corrections s b row) ≡ corrections_bytes s b
unfolding corrections correction corrections_bytes
corrections-length s b row =
    even-length (λ i. tabulate b (λ p. bit_xor (u_byte s row 0 p) (u_byte s row (i + 1) p))) b (s.tau - 1)
    (λ i h. length-tabulate b (λ p. bit_xor (u_byte s row 0 p) (u_byte s row (i + 1) p)))

module _ (s : Shape) (f : ShapeLaws s) (ch : List ℕ) (b : ℕ) (row row' : ℕ → ℕ → ℕ → ℕ)
    (same : (i e p : ℕ) → i < s.tau → e < entries_of s i → (e ≡ hidden_index s ch i → ⊥) → row' i e p ≡ row i e p) where
  correction-at : (i p : ℕ) → i < s.tau - 1 → p < b → get_or (corrections s b row) (b * i + p) 0 ≡ bit_xor (u_byte s row 0 p) (u_byte s row (suc i) p)
  unfolding corrections correction
  correction-at i p h l =
      let g : ℕ → List ℕ = λ i. tabulate b (λ p. bit_xor (u_byte s row 0 p) (u_byte s row (i + 1) p)) in
      sym (get_or-part (concat (s.tau - 1) g) (b * i) b p l)
      ∙ ap (λ (l : List ℕ). get_or l p 0)
      (even-part g b (s.tau - 1) i (λ i h. length-tabulate b (λ p. bit_xor (u_byte s row 0 p) (u_byte s row (i + 1) p))) h)
      ∙ get_or-tabulate b (λ p. bit_xor (u_byte s row 0 p) (u_byte s row (i + 1) p)) p 0 l
      ∙ ap (λ (n : ℕ). bit_xor (u_byte s row 0 p) (u_byte s row n p)) (add-one i)

  abbrev VByte : ℕ → ℕ → ℕ → ℕ
  VByte i j p = xor_below (entries_of s i) (λ e. bit j e * row i e p)

  abbrev QByte : ℕ → ℕ → ℕ → ℕ
  QByte i j p =
      bit_xor (xor_below (entries_of s i) (λ e. bit j (bit_xor e (hidden_index s ch i)) * row' i e p))
      (correction_byte s b ch (corrections s b row) i j p)

  -- the column rule at a byte, in one equation
  byte-rule : (i j p : ℕ) → i < s.tau → j < depth_of s i → p < b → QByte i j p ≡ bit_xor (VByte i j p) (bit_at ch (first_bit s i + j) * u_byte s row 0 p)
  unfolding correction_byte u_byte
  byte-rule i j p h l k =
      ap (λ (x : ℕ). bit_xor x (correction_byte s b ch (corrections s b row) i j p))
      (hidden-unused (entries_of s i) (λ e. row' i e p) (λ e. row i e p) (hidden_index s ch i) j (λ e m d. same i e p h m d))
      ∙ go i h l
    where
      go : (i : ℕ) → i < s.tau → j < depth_of s i
          → bit_xor (xor_below (entries_of s i) (λ e. bit j (bit_xor e (hidden_index s ch i)) * row i e p)) (correction_byte s b ch (corrections s b row) i j p)
          ≡ bit_xor (VByte i j p) (bit_at ch (first_bit s i + j) * u_byte s row 0 p)
      go zero h l =
          xor_zero_r _
          ∙ hidden-column (entries_of s 0) (λ e. row 0 e p) (hidden_index s ch 0) j
          ∙ ap (λ (d : ℕ). bit_xor (VByte 0 j p) (d * u_byte s row 0 p)) (hidden-bit s ch 0 j l)
      go (suc i) h l =
          ap₂ (λ (d x : ℕ). bit_xor (xor_below (entries_of s (suc i)) (λ e. bit j (bit_xor e (hidden_index s ch (suc i))) * row (suc i) e p)) (d * x))
          (sym (hidden-bit s ch (suc i) j l)) (correction-at i p (omega arith) k)
          ∙ corrected-column (entries_of s (suc i)) (λ e. row (suc i) e p) (u_byte s row 0 p) (hidden_index s ch (suc i)) j
          ∙ ap (λ (d : ℕ). bit_xor (VByte (suc i) j p) (d * u_byte s row 0 p)) (hidden-bit s ch (suc i) j l)

  abbrev Corrected : List ℕ
  Corrected = corrections s b row

  column-0 : (i j : ℕ) → i < s.tau → j < depth_of s i → bit_at ch (first_bit s i + j) ≡ 0 → verifier_column s b row' ch Corrected i j ≡ signer_column s b row i j
  unfolding verifier_column signer_column column_byte
  column-0 i j h l e =
      tabulate-same b (QByte i j) (VByte i j)
      (λ p k.
      byte-rule i j p h l k
      ∙ ap (λ (d : ℕ). bit_xor (VByte i j p) (d * u_byte s row 0 p)) e
      ∙ ap (bit_xor (VByte i j p)) (zero-mul (u_byte s row 0 p)) ∙ xor_zero_r (VByte i j p))

  column-1 : (i j : ℕ) → i < s.tau → j < depth_of s i → bit_at ch (first_bit s i + j) ≡ 1
      → verifier_column s b row' ch Corrected i j ≡ xor_bytes (signer_column s b row i j) (signer_u s b row)
  unfolding verifier_column signer_column signer_u column_byte
  column-1 i j h l e =
      tabulate-same b (QByte i j) (λ p. bit_xor (VByte i j p) (u_byte s row 0 p))
      (λ p k.
      byte-rule i j p h l k
      ∙ ap (λ (d : ℕ). bit_xor (VByte i j p) (d * u_byte s row 0 p)) e
      ∙ ap (bit_xor (VByte i j p)) (one-mul (u_byte s row 0 p)))
      ∙ tabulate-xor b (VByte i j) (u_byte s row 0)

  q-long : (i j : ℕ) → length (verifier_column s b row' ch Corrected i j) ≡ b
  unfolding verifier_column column_byte
  q-long i j = length-tabulate b (QByte i j)

  v-long : (i j : ℕ) → length (signer_column s b row i j) ≡ b
  unfolding signer_column column_byte
  v-long i j = length-tabulate b (VByte i j)

  abbrev MQ : List ℕ
  MQ = matrix_of s b (verifier_column s b row' ch Corrected)

  abbrev MV : List ℕ
  MV = matrix_of s b (signer_column s b row)

  pub column-rule : grinding_ok s ch ≡ true → ColumnRule (level s) b ch (signer_u s b row) MV MQ
  column-rule g =
      record {
        at-0 = λ c h e. zero_bit c h e (dec_lt c (first_bit s s.tau));
        at_1 = λ c h e. one_bit c h e (dec_lt c (first_bit s s.tau));
      }
    where
      zero_bit : (c : ℕ) → c < level s → bit_at ch c ≡ 0 → Dec (c < first_bit s s.tau) → part MQ (b * c) b ≡ part MV (b * c) b
      zero_bit c h e (yes l) =
          let a = find s f s.tau c l in
          ap (λ (n : ℕ). part MQ (b * n) b) a.is
          ∙ matrix-column s f b (verifier_column s b row' ch Corrected) q-long a.i a.j a.vector a.within
          ∙ column-0 a.i a.j a.vector a.within (ap (bit_at ch) (sym a.is) ∙ e)
          ∙ sym (matrix-column s f b (signer_column s b row) v-long a.i a.j a.vector a.within)
          ∙ ap (λ (n : ℕ). part MV (b * n) b) (sym a.is)
      zero_bit c h e (no l) =
          let x : c ≡ first_bit s s.tau + (c - first_bit s s.tau) = omega arith in
          ap (λ (n : ℕ). part MQ (b * n) b) x
          ∙ matrix-rest s f b (verifier_column s b row' ch Corrected) q-long (c - first_bit s s.tau)
          ∙ sym (matrix-rest s f b (signer_column s b row) v-long (c - first_bit s s.tau))
          ∙ ap (λ (n : ℕ). part MV (b * n) b) (sym x)

      one_bit : (c : ℕ) → c < level s → bit_at ch c ≡ 1 → Dec (c < first_bit s s.tau) → part MQ (b * c) b ≡ xor_bytes (part MV (b * c) b) (signer_u s b row)
      one_bit c h e (yes l) =
          let a = find s f s.tau c l in
          ap (λ (n : ℕ). part MQ (b * n) b) a.is
          ∙ matrix-column s f b (verifier_column s b row' ch Corrected) q-long a.i a.j a.vector a.within
          ∙ column-1 a.i a.j a.vector a.within (ap (bit_at ch) (sym a.is) ∙ e)
          ∙ ap (λ (x : List ℕ). xor_bytes x (signer_u s b row))
          (sym (matrix-column s f b (signer_column s b row) v-long a.i a.j a.vector a.within) ∙ ap (λ (n : ℕ). part MV (b * n) b) (sym a.is))
      one_bit c h e (no l) =
          let x : first_bit s s.tau + (c - first_bit s s.tau) ≡ c = omega arith in
          let z = f.bit-all in
          let y = grinding-bit s ch (c - first_bit s s.tau) g (omega arith) in
          absurd (let q : ◌≡◌ {A = ℕ} 1 0 = sym e ∙ ap (bit_at ch) (sym x) ∙ y in omega arith)
