-- The leaf commitments and the rows of version 1, as the checking half has them: those of the signing half, but for the rows of the hidden entries.
use Prim.Native.Nat.{ℕ, suc, ◌+◌, ◌-◌, ◌*◌, ◌<◌}
use mathlib.Core.Path.{◌≡◌, sym, ap, ◌∙◌}
use mathlib.Core.Bool.{Bool, false, cond, ◌||◌}
use mathlib.Core.List.{List, [], ◌∷◌, ◌++◌}
use native.Mathlib.Nat.{mul-add, mul-zero}
use native.Mathlib.Decide.{ℕ_discrete}
use native.Mathlib.Omega.{arith}
use lib.Dec.{eqb}
use lib.ListN.{length, length-drop}
use borrow.Author.Tests.{eq-eqb, ne_eqb}
use Rattle.spec.specs.declared.Shape.{Shape}
use Rattle.spec.specs.Bytes.{part, concat}
use Rattle.spec.specs.Tree.{some}
use Rattle.spec.specs.Shapes.{node_bytes, entries_of, first_entry, leaves, hidden_index}
use Rattle.spec.specs.Primitives.{Primitives}
use Rattle.spec.specs.Leaves.{vector_commitments, leaf_commitments, vector_hash, commitment_of}
use Rattle.spec.specs.Version1.{signer_trees, leaf_in, leaf_key1, leaf_commitment_bytes1, hashed_leaf, leaf_seed1, leaf_commitment1, signer_leaf_commitment1, row1_byte, leaf_commitment_at1, opening1_of, hidden_leaf_commitment1, on_path, reconstructed_trees, verifier_leaf_commitment1, leaf_commitments1_bytes}
use Rattle.laws.proofs.Concat.{laid-length, laid-part, even-length, even-part, concat-same, mul-within}
use Rattle.planning_laws.proofs.Covered.{covered-leaf}
use Rattle.planning_laws.proofs.Depths.{entry-none, entry_next, entry-all}
use Rattle.planning_laws.proofs.HiddenLeaves.{hidden-index-lt}
use Rattle.planning_laws.proofs.ShapeFacts.{ShapeFacts}
use Rattle.theorems.specs.Version1Demands.{WholeHash}
use Rattle.theorems.proofs.Version1Opening.{hidden-is}
use Rattle.theorems.proofs.Version1Trees.{trees-long, nodes-again}

-- ---- strings of w bytes for each entry of each vector

module _ (s : Shape) (f : ShapeFacts s) (w : ℕ) (lc : ℕ → ℕ → List ℕ) (long : (i j : ℕ) → length (lc i j) ≡ w) where
  vector-length : (i : ℕ) → length (vector_commitments s lc i) ≡ w * entries_of s i
  unfolding vector_commitments
  vector-length i = even-length (lc i) w (entries_of s i) (λ j l. long i j)

  laid : (i : ℕ) → i < s.tau → w * first_entry s (suc i) ≡ w * first_entry s i + length (vector_commitments s lc i)
  laid i h = ap (λ (n : ℕ). w * n) (entry_next s i) ∙ mul-add w (first_entry s i) (entries_of s i) ∙ ap (λ (n : ℕ). w * first_entry s i + n) (sym (vector-length i))

  none : w * first_entry s 0 ≡ 0
  none = ap (λ (n : ℕ). w * n) (entry-none s) ∙ mul-zero w

  pub entries-length : length (leaf_commitments s lc) ≡ w * leaves s
  unfolding leaf_commitments
  entries-length = laid-length (vector_commitments s lc) (λ i. w * first_entry s i) none s.tau laid ∙ ap (λ (n : ℕ). w * n) (entry-all s (let z = f.few in omega arith))

  pub entries_at : (i j : ℕ) → i < s.tau → j < entries_of s i → part (leaf_commitments s lc) (w * (first_entry s i + j)) w ≡ lc i j
  unfolding leaf_commitments vector_commitments
  entries_at i j h l =
      let c = vector-length i in
      let m = mul-within w j (entries_of s i) l in
      ap (λ (n : ℕ). part (concat s.tau (λ i. concat (entries_of s i) (lc i))) n w) (mul-add w (first_entry s i) j)
      ∙ laid-part (λ i. concat (entries_of s i) (lc i)) (λ i. w * first_entry s i) none s.tau i (w * j) w laid h (omega arith)
      ∙ even-part (lc i) w (entries_of s i) j (λ j l. long i j) l

module _ (P : Primitives) (whole : WholeHash P) (s : Shape) (f : ShapeFacts s) (root iv ch : List ℕ) where
  abbrev Trees : List ℕ
  Trees = signer_trees P s root iv

  abbrev Own : ℕ → ℕ → List ℕ
  Own = signer_leaf_commitment1 P s iv (signer_trees P s root iv)

  abbrev Lcs : List ℕ
  Lcs = leaf_commitments s (signer_leaf_commitment1 P s iv (signer_trees P s root iv))

  own-long : (i j : ℕ) → length (Own i j) ≡ leaf_commitment_bytes1 s
  unfolding hashed_leaf leaf_commitment1 signer_leaf_commitment1
  own-long i j = (let e = whole s (leaf_key1 s Trees i j ++ iv) (node_bytes s + leaf_commitment_bytes1 s) in simp length-drop (omega arith))

  pub lcs-long : length Lcs ≡ leaf_commitments1_bytes s
  unfolding leaf_commitments1_bytes
  lcs-long = entries-length s f (leaf_commitment_bytes1 s) Own own-long

  abbrev Op : List ℕ
  Op = opening1_of s ch (signer_trees P s root iv) (leaf_commitments s (signer_leaf_commitment1 P s iv (signer_trees P s root iv)))

  abbrev Again : List ℕ
  Again = reconstructed_trees P s iv ch Op

  -- a leaf that is not hidden is not on the way
  leaf-off : (i j : ℕ) → j < entries_of s i → (j ≡ hidden_index s ch i → ⊥) → on_path s ch i (leaf_in s i j) ≡ false
  unfolding on_path leaf_in some
  leaf-off i j l n =
      let q = hidden-index-lt s ch i in
      covered-leaf (entries_of s i) (entries_of s i - 1 + j) ((entries_of s i - 1 + hidden_index s ch i) ∷ []) (omega arith, omega arith, tt) (omega arith)
      ∙ ap (λ (b : Bool). b || false) (ne_eqb (entries_of s i - 1 + j) (entries_of s i - 1 + hidden_index s ch i) (λ e. n (omega arith)))

  leaf-in : (i j : ℕ) → j < entries_of s i → leaf_in s i j < 2 * entries_of s i - 1
  unfolding leaf_in
  leaf-in i j l = omega arith

  key-same : (i j : ℕ) → i < s.tau → j < entries_of s i → (j ≡ hidden_index s ch i → ⊥) → leaf_key1 s Again i j ≡ leaf_key1 s Trees i j
  unfolding leaf_key1
  key-same i j h l n = nodes-again P s f root iv ch Lcs lcs-long i (leaf_in s i j) h (leaf-in i j l) (leaf-off i j l n)

  commitment-same : (i j : ℕ) → i < s.tau → j < entries_of s i → verifier_leaf_commitment1 P s iv ch Op Again i j ≡ Own i j
  unfolding signer_leaf_commitment1 verifier_leaf_commitment1 leaf_commitment_at1
  commitment-same i j h l = go (ℕ_discrete j (hidden_index s ch i))
    where
      go : Dec (j ≡ hidden_index s ch i) → cond (eqb j (hidden_index s ch i)) (hidden_leaf_commitment1 s Op i) (leaf_commitment1 P s iv (leaf_key1 s Again i j)) ≡ leaf_commitment1 P s iv (leaf_key1 s Trees i j)
      go (yes e) =
          ap (λ (b : Bool). cond b (hidden_leaf_commitment1 s Op i) (leaf_commitment1 P s iv (leaf_key1 s Again i j))) (eq-eqb j (hidden_index s ch i) e)
          ∙ hidden-is s f ch Trees Lcs (trees-long P s f root iv ch Lcs lcs-long) lcs-long i h
          ∙ entries_at s f (leaf_commitment_bytes1 s) Own own-long i (hidden_index s ch i) h (hidden-index-lt s ch i)
          ∙ ap (Own i) (sym e)
      go (no n) =
          ap (λ (b : Bool). cond b (hidden_leaf_commitment1 s Op i) (leaf_commitment1 P s iv (leaf_key1 s Again i j))) (ne_eqb j (hidden_index s ch i) n)
          ∙ ap (leaf_commitment1 P s iv) (key-same i j h l n)

  vector-same : (i : ℕ) → i < s.tau → vector_commitments s (verifier_leaf_commitment1 P s iv ch Op Again) i ≡ vector_commitments s Own i
  unfolding vector_commitments
  vector-same i h = concat-same (verifier_leaf_commitment1 P s iv ch Op Again i) (Own i) (entries_of s i) (λ j l. commitment-same i j h l)

  pub commitments-same : leaf_commitments s (verifier_leaf_commitment1 P s iv ch Op Again) ≡ Lcs
  unfolding leaf_commitments
  commitments-same = concat-same (vector_commitments s (verifier_leaf_commitment1 P s iv ch Op Again)) (vector_commitments s Own) s.tau vector-same

  pub hash-same : commitment_of P s (verifier_leaf_commitment1 P s iv ch Op Again) ≡ commitment_of P s Own
  unfolding commitment_of vector_hash
  hash-same =
      ap (P.h1 s) (concat-same (λ i. P.h1 s (vector_commitments s (verifier_leaf_commitment1 P s iv ch Op Again) i)) (λ i. P.h1 s (vector_commitments s Own i)) s.tau (λ i h. ap (P.h1 s) (vector-same i h)))

  pub row_same : (i e p : ℕ) → i < s.tau → e < entries_of s i → (e ≡ hidden_index s ch i → ⊥) → row1_byte P s iv Again i e p ≡ row1_byte P s iv Trees i e p
  unfolding row1_byte
  row_same i e p h l n = ap (λ (k : List ℕ). P.prg_byte s (leaf_seed1 P s iv k) iv 0 p) (key-same i e h l n)
