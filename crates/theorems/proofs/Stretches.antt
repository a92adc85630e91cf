-- A stretch equals the same bytes of the full result. A byte of u or of a column is a sum of bytes of rows, each of which stands `first` bytes further on in the whole
-- row; a buffer is cut string by string.
use Prim.Native.Nat.{ℕ, zero, suc, ◌+◌, ◌-◌, ◌*◌, ◌/◌, ◌≤◌, ◌<◌}
use mathlib.Core.Path.{◌≡◌, refl, sym, ap, ap₂, ◌∙◌, subst}
use mathlib.Core.Bool.{Bool, true, false}
use mathlib.Core.List.{List, [], ◌∷◌}
use native.Mathlib.Omega.{arith}
use native.Mathlib.Nat.{zero-add, mul-zero}
use native.Mathlib.Decide.{dec_lt}
use lib.Bits.{bit_xor}
use lib.ListN.{length, get_or}
use Rattle.spec.specs.declared.Shape.{Shape}
use Rattle.spec.specs.declared.Stretch.{Stretch}
use Rattle.spec.specs.Bytes.{bit, part, tabulate, concat}
use Rattle.spec.specs.Challenge.{bit_at}
use Rattle.spec.specs.Shapes.{resolved, shape_ok, level, depth_of, entries_of, first_bit, hidden_index, grinding_ok}
use Rattle.spec.specs.Primitives.{Primitives}
use Rattle.spec.specs.Rows.{row_byte, stretch_byte, u_byte, column_byte, matrix_of}
use Rattle.spec.specs.Signer.{signer_tree, signer_u, signer_column, correction, corrections}
use Rattle.spec.specs.Verifier.{slots_ok, reconstructed_tree, correction_byte, verifier_column}
use Rattle.spec.specs.Calls.{first_refusal, fits, row_ok, whole_row, stretch_ok, nodes_ok, Committed, committed, commit_lengths, commit_stretch_number, Reconstructed, reconstructed, reconstruct_lengths, reconstruct_stretch_number}
use Rattle.laws.proofs.Calls.{written-zero, stretch-within}
use Rattle.laws.proofs.Lists.{length-tabulate, tabulate-same, get_or-part, part-part, part-tabulate}
use Rattle.laws.proofs.Strings.{part-zeros}
use Rattle.laws.proofs.Sums.{xor_same}
use Rattle.laws.proofs.Concat.{part-whole, even-length, even-part, mul-within}
use Rattle.planning_laws.proofs.ShapeLaws.{ShapeLaws, shape-laws}
use Rattle.theorems.specs.Stretches.{Cut, SignerCut, VerifierCut, StretchesAgree}
use Rattle.theorems.proofs.Buffers.{matrix-column, matrix-rest, matrix-length, find}

-- ---- strings of the same length, one after another

-- n strings of b bytes, and n of the stretch's width, each the stretch of one of the first
cut-strings : (n b : ℕ) (z : Stretch) (whole cut : List ℕ) → length whole ≡ b * n → z.first + z.width ≤ b
    → ((c : ℕ) → c < n → part cut (z.width * c) z.width ≡ part (part whole (b * c) b) z.first z.width) → Cut n b z whole cut
cut-strings n b z whole cut long inside h c l =
    (let m = mul-within b c n l in h c l ∙ part-part whole (b * c) b z.first z.width (omega arith) inside)

-- ---- rows and what is made of them

module _ (s : Shape) (b : ℕ) (z : Stretch) (row row' : ℕ → ℕ → ℕ → ℕ) (inside : z.first + z.width ≤ b) (further : (i e p : ℕ) → row' i e p ≡ row i e (z.first + p)) where
  u-further : (i p : ℕ) → u_byte s row' i p ≡ u_byte s row i (z.first + p)
  unfolding u_byte
  u-further i p = xor_same (entries_of s i) (λ e. row' i e p) (λ e. row i e (z.first + p)) (λ e h. further i e p)

  column-further : (number_of : ℕ → ℕ) (i j p : ℕ) → column_byte s row' number_of i j p ≡ column_byte s row number_of i j (z.first + p)
  unfolding column_byte
  column-further number_of i j p =
      xor_same (entries_of s i) (λ e. bit j (number_of e) * row' i e p) (λ e. bit j (number_of e) * row i e (z.first + p))
      (λ e h. ap (λ (x : ℕ). bit j (number_of e) * x) (further i e p))

  -- a string of bytes that stand `first` further on in another
  string-cut : (f g : ℕ → ℕ) → ((p : ℕ) → p < z.width → g p ≡ f (z.first + p)) → tabulate z.width g ≡ part (tabulate b f) z.first z.width
  string-cut f g h = tabulate-same z.width g (λ p. f (z.first + p)) h ∙ sym (part-tabulate b f z.first z.width inside)

  pub u-cut : Cut 1 b z (signer_u s b row) (signer_u s z.width row')
  unfolding signer_u
  u-cut c l =
      let none : c ≡ 0 = omega arith in
      let at : z.width * c ≡ 0 = ap (λ (n : ℕ). z.width * n) none ∙ mul-zero z.width in
      let from : b * c + z.first ≡ z.first = (let e = ap (λ (n : ℕ). b * n) none ∙ mul-zero b in omega arith) in
      ap (λ (n : ℕ). part (tabulate z.width (u_byte s row' 0)) n z.width) at
      ∙ part-whole (tabulate z.width (u_byte s row' 0)) z.width (length-tabulate z.width (u_byte s row' 0))
      ∙ string-cut (u_byte s row 0) (u_byte s row' 0) (λ p h. u-further 0 p)
      ∙ ap (λ (n : ℕ). part (tabulate b (u_byte s row 0)) n z.width) (sym from)

  signer-column-cut : (i j : ℕ) → signer_column s z.width row' i j ≡ part (signer_column s b row i j) z.first z.width
  unfolding signer_column
  signer-column-cut i j = string-cut (column_byte s row (λ e. e) i j) (column_byte s row' (λ e. e) i j) (λ p h. column-further (λ e. e) i j p)

  correction-cut : (i : ℕ) → correction s z.width row' i ≡ part (correction s b row i) z.first z.width
  unfolding correction
  correction-cut i =
      string-cut (λ p. bit_xor (u_byte s row 0 p) (u_byte s row i p)) (λ p. bit_xor (u_byte s row' 0 p) (u_byte s row' i p))
      (λ p h. ap₂ bit_xor (u-further 0 p) (u-further i p))

  correction-long : (b : ℕ) (row : ℕ → ℕ → ℕ → ℕ) (i : ℕ) → length (correction s b row i) ≡ b
  unfolding correction
  correction-long b row i = length-tabulate b (λ p. bit_xor (u_byte s row 0 p) (u_byte s row i p))

  pub corrections-cut : Cut (s.tau - 1) b z (corrections s b row) (corrections s z.width row')
  unfolding corrections
  corrections-cut =
      let f : ℕ → List ℕ = λ i. correction s b row (i + 1) in
      let g : ℕ → List ℕ = λ i. correction s z.width row' (i + 1) in
      cut-strings (s.tau - 1) b z (concat (s.tau - 1) f) (concat (s.tau - 1) g) (even-length f b (s.tau - 1) (λ i h. correction-long b row (i + 1))) inside
      (λ c l.
      even-part g z.width (s.tau - 1) c (λ i h. correction-long z.width row' (i + 1)) l
      ∙ correction-cut (c + 1)
      ∙ ap (λ (x : List ℕ). part x z.first z.width) (sym (even-part f b (s.tau - 1) c (λ i h. correction-long b row (i + 1)) l)))

  -- ---- matrices

  module _ (f : ShapeLaws s) (column column' : ℕ → ℕ → List ℕ) (long : (i j : ℕ) → length (column i j) ≡ b) (long' : (i j : ℕ) → length (column' i j) ≡ z.width)
      (cut : (i j : ℕ) → i < s.tau → j < depth_of s i → column' i j ≡ part (column i j) z.first z.width) where
    abbrev M : List ℕ
    M = matrix_of s b column

    abbrev M' : List ℕ
    M' = matrix_of s z.width column'

    matrix-cut : Cut (level s) b z M M'
    matrix-cut = cut-strings (level s) b z M M' (matrix-length s f b column long) inside (λ c l. go c l (dec_lt c (first_bit s s.tau)))
      where
        go : (c : ℕ) → c < level s → Dec (c < first_bit s s.tau) → part M' (z.width * c) z.width ≡ part (part M (b * c) b) z.first z.width
        go c l (yes h) =
            let a = find s f s.tau c h in
            ap (λ (n : ℕ). part M' (z.width * n) z.width) a.is
            ∙ matrix-column s f z.width column' long' a.i a.j a.vector a.within
            ∙ cut a.i a.j a.vector a.within
            ∙ ap (λ (x : List ℕ). part x z.first z.width)
            (sym (matrix-column s f b column long a.i a.j a.vector a.within) ∙ ap (λ (n : ℕ). part M (b * n) b) (sym a.is))
        go c l (no h) =
            let d = c - first_bit s s.tau in
            let x : c ≡ first_bit s s.tau + d = omega arith in
            let all = f.bit-all in
            let m = mul-within b d s.w (omega arith) in
            let m' = mul-within z.width d s.w (omega arith) in
            ap (λ (n : ℕ). part M' (z.width * n) z.width) x
            ∙ matrix-rest s f z.width column' long' d
            ∙ part-zeros (z.width * s.w) (z.width * d) z.width (omega arith)
            ∙ sym (part-zeros b z.first z.width inside)
            ∙ ap (λ (x : List ℕ). part x z.first z.width)
            (sym (part-zeros (b * s.w) (b * d) b (omega arith)) ∙ sym (matrix-rest s f b column long d) ∙ ap (λ (n : ℕ). part M (b * n) b) (sym x))

  signer-long : (b : ℕ) (row : ℕ → ℕ → ℕ → ℕ) (i j : ℕ) → length (signer_column s b row i j) ≡ b
  unfolding signer_column
  signer-long b row i j = length-tabulate b (column_byte s row (λ e. e) i j)

  pub v-cut : ShapeLaws s → Cut (level s) b z (matrix_of s b (signer_column s b row)) (matrix_of s z.width (signer_column s z.width row'))
  v-cut f = matrix-cut f (signer_column s b row) (signer_column s z.width row') (signer-long b row) (signer-long z.width row') (λ i j h l. signer-column-cut i j)

  module _ (ch cs cs' : List ℕ) (cut : Cut (s.tau - 1) b z cs cs') where
    correction-further : (i j p : ℕ) → i < s.tau → p < z.width → correction_byte s z.width ch cs' i j p ≡ correction_byte s b ch cs i j (z.first + p)
    unfolding correction_byte
    correction-further zero j p h k = refl
    correction-further (suc i) j p h k =
        ap (λ (x : ℕ). bit_at ch (first_bit s (suc i) + j) * x)
        (sym (get_or-part cs' (z.width * i) z.width p k)
        ∙ ap (λ (l : List ℕ). get_or l p 0) (cut i (omega arith))
        ∙ get_or-part cs (b * i + z.first) z.width p k
        ∙ ap (λ (n : ℕ). get_or cs n 0) (let e : b * i + z.first + p ≡ b * i + (z.first + p) = omega arith in e))

    verifier-column-cut : (i j : ℕ) → i < s.tau → verifier_column s z.width row' ch cs' i j ≡ part (verifier_column s b row ch cs i j) z.first z.width
    unfolding verifier_column
    verifier-column-cut i j h =
        let number : ℕ → ℕ = λ e. bit_xor e (hidden_index s ch i) in
        string-cut (λ p. bit_xor (column_byte s row number i j p) (correction_byte s b ch cs i j p)) (λ p. bit_xor (column_byte s row' number i j p) (correction_byte s z.width ch cs' i j p))
        (λ p k. ap₂ bit_xor (column-further number i j p) (correction-further i j p h k))

    verifier-long : (b : ℕ) (row : ℕ → ℕ → ℕ → ℕ) (cs : List ℕ) (i j : ℕ) → length (verifier_column s b row ch cs i j) ≡ b
    unfolding verifier_column
    verifier-long b row cs i j = length-tabulate b (λ p. bit_xor (column_byte s row (λ e. bit_xor e (hidden_index s ch i)) i j p) (correction_byte s b ch cs i j p))

    pub q-cut : ShapeLaws s → Cut (level s) b z (matrix_of s b (verifier_column s b row ch cs)) (matrix_of s z.width (verifier_column s z.width row' ch cs'))
    q-cut f =
        matrix-cut f (verifier_column s b row ch cs) (verifier_column s z.width row' ch cs') (verifier-long b row cs) (verifier-long z.width row' cs') (λ i j h l. verifier-column-cut i j h)

-- ---- the calls

-- a byte of the stretch of a row, in the whole row
row-further : (P : Primitives) (s : Shape) (n : ℕ) (z : Stretch) (iv tree : List ℕ) (i e p : ℕ) → stretch_byte P s z iv tree i e p ≡ stretch_byte P s (whole_row n) iv tree i e (z.first + p)
unfolding stretch_byte
row-further P s n z iv tree i e p = ap (row_byte P s iv tree i e) (sym (zero-add (z.first + p)))

-- the first and third test of a call that answers 0 hold
first-third : (a b c : Bool) (ts : List (Bool × ℕ)) → first_refusal ((a, 1) ∷ (b, 2) ∷ (c, 8) ∷ ts) ≡ 0 → (a ≡ true) × (c ≡ true)
first-third false b c ts h = absurd (omega arith)
first-third true false c ts h = absurd (omega arith)
first-third true true false ts h = absurd (omega arith)
first-third true true true ts h = (refl, refl)

signer-cut : (P : Primitives) (s : Shape) (n : ℕ) (z : Stretch) (root iv : List ℕ) → shape_ok s ≡ true → stretch_ok (n / 8) z ≡ true
    → SignerCut s (n / 8) z (committed P s (whole_row n) root iv) (committed P s z root iv)
unfolding committed
signer-cut P s n z root iv sh ok =
    let f = shape-laws s sh in
    let tree = signer_tree P s root iv in
    let row = stretch_byte P s (whole_row n) iv tree in
    let row' = stretch_byte P s z iv tree in
    let inside = stretch-within (n / 8) z ok in
    let further = row-further P s n z iv tree in
    record {
      commitment = refl;
      tree = refl;
      leaf_commitments = refl;
      u = u-cut s (n / 8) z row row' inside further;
      v = v-cut s (n / 8) z row row' inside further f;
      corrections = corrections-cut s (n / 8) z row row' inside further;
    }

verifier-cut : (P : Primitives) (s : Shape) (n : ℕ) (z : Stretch) (iv ch cs cs' opening : List ℕ) → shape_ok s ≡ true → stretch_ok (n / 8) z ≡ true
    → Cut (s.tau - 1) (n / 8) z cs cs' → VerifierCut s (n / 8) z (reconstructed P s (whole_row n) iv ch cs opening) (reconstructed P s z iv ch cs' opening)
unfolding reconstructed
verifier-cut P s n z iv ch cs cs' opening sh ok cut =
    let tree = reconstructed_tree P s iv ch opening in
    record {
      commitment = refl;
      tree = refl;
      leaf_commitments = refl;
      q = q-cut s (n / 8) z (stretch_byte P s (whole_row n) iv tree) (stretch_byte P s z iv tree) (stretch-within (n / 8) z ok) (row-further P s n z iv tree) ch cs cs' cut (shape-laws s sh);
    }

pub stretches-agree : (P : Primitives) → StretchesAgree P
unfolding commit_stretch_number reconstruct_stretch_number
stretches-agree P =
    record {
      signer = λ s n z root iv x whole y cut r q c d e f.
          let ok = first-third (shape_ok (resolved s)) (row_ok n) (stretch_ok (n / 8) z) ((fits (commit_lengths (resolved s) z.width root iv y), 3) ∷ []) (sym d.number ∙ f) in
          let w = c.buffers ∙ written-zero r.number (committed P (resolved s) (whole_row n) root iv) x e in
          let v = d.buffers ∙ written-zero q.number (committed P (resolved s) z root iv) y f in
          subst (λ (a : Committed). SignerCut (resolved s) (n / 8) z a cut) (sym w)
          (subst (λ (a : Committed). SignerCut (resolved s) (n / 8) z (committed P (resolved s) (whole_row n) root iv) a) (sym v) (signer-cut P (resolved s) n z root iv ok.0 ok.1));
      verifier = λ s n z iv ch cs cs' opening x whole y cut r q c d e f k.
          let t = resolved s in
          let ok =
          first-third (shape_ok t) (row_ok n) (stretch_ok (n / 8) z)
          ((fits (reconstruct_lengths t z.width iv ch cs' opening y), 3) ∷ (grinding_ok t ch, 4) ∷ (nodes_ok t ch, 5) ∷ (slots_ok t ch opening, 6) ∷ []) (sym d.number ∙ f) in
          let w = c.buffers ∙ written-zero r.number (reconstructed P t (whole_row n) iv ch cs opening) x e in
          let v = d.buffers ∙ written-zero q.number (reconstructed P t z iv ch cs' opening) y f in
          subst (λ (a : Reconstructed). VerifierCut t (n / 8) z a cut) (sym w)
          (subst (λ (a : Reconstructed). VerifierCut t (n / 8) z (reconstructed P t (whole_row n) iv ch cs opening) a) (sym v)
          (verifier-cut P t n z iv ch cs cs' opening ok.0 ok.1 k));
    }
