-- Document 02, E12: the calls of version 1, as Calls.antt has those of version 2: for each its number, its count, which is always 0, and every buffer that it may write, after it.
-- The record with the call's name is its contract, with P at `faest1`. No shape is resolved.
use Rattle.std.specs.Prelude.{ℕ, ◌/◌, ◌≡◌, List, [], ◌∷◌, length}
use Rattle.spec.specs.declared.Shape.{Shape}
use Rattle.spec.specs.declared.Answer.{Answer}
use Rattle.spec.specs.Shapes.{node_bytes, challenge_bytes, hash_bytes, iv_bytes, matrix_bytes, corrections_bytes}
use Rattle.spec.specs.Primitives.{Primitives}
use Rattle.spec.specs.Leaves.{leaf_commitments, commitment_of}
use Rattle.spec.specs.Rows.{matrix_of}
use Rattle.spec.specs.Signer.{signer_u, signer_column, corrections}
use Rattle.spec.specs.Verifier.{verifier_column}
use Rattle.spec.specs.Calls.{first_refusal, fits, row_ok, written, Committed, Reconstructed}
use Rattle.spec.specs.Version1.{shape1_ok, signer_trees, signer_leaf_commitment1, row1_byte, opening1_of, reconstructed_trees, verifier_leaf_commitment1, trees1_bytes, leaf_commitments1_bytes, opening1_bytes}

-- of commit and reconstruct, n the row length in bits; and of open
unfoldable pub row1_number : Shape → ℕ → List (ℕ × ℕ) → ℕ
row1_number s n lengths = first_refusal ((shape1_ok s, 1) ∷ (row_ok n, 2) ∷ (fits lengths, 3) ∷ [])

unfoldable pub open1_number : Shape → List (ℕ × ℕ) → ℕ
open1_number s lengths = first_refusal ((shape1_ok s, 1) ∷ (fits lengths, 3) ∷ [])

-- ---- commit; b is the length of a row in bytes

unfoldable pub committed1 : Primitives → Shape → ℕ → List ℕ → List ℕ → Committed
committed1 P s b root iv =
    let trees = signer_trees P s root iv in
    let row = row1_byte P s iv trees in
    record {
      commitment = commitment_of P s (signer_leaf_commitment1 P s iv trees);
      tree = trees;
      leaf_commitments = leaf_commitments s (signer_leaf_commitment1 P s iv trees);
      u = signer_u s b row;
      v = matrix_of s b (signer_column s b row);
      corrections = corrections s b row;
    }

abbrev pub commit1_lengths : Shape → ℕ → List ℕ → List ℕ → Committed → List (ℕ × ℕ)
commit1_lengths s b root iv x =
    (length root, node_bytes s)
    ∷ (length iv, iv_bytes)
    ∷ (length x.commitment, hash_bytes s)
    ∷ (length x.tree, trees1_bytes s)
    ∷ (length x.leaf_commitments, leaf_commitments1_bytes s)
    ∷ (length x.u, b)
    ∷ (length x.v, matrix_bytes s b)
    ∷ (length x.corrections, corrections_bytes s b)
    ∷ []

pub record Commit1 (P : Primitives) (s : Shape) (n : ℕ) (root iv : List ℕ) (before after : Committed) (r : Answer) : Type 0 where
  pub number : r.number ≡ row1_number s n (commit1_lengths s (n / 8) root iv before)
  pub count : r.count ≡ 0
  pub buffers : after ≡ written r.number (committed1 P s (n / 8) root iv) before

-- ---- open

abbrev pub open1_lengths : Shape → List ℕ → List ℕ → List ℕ → List ℕ → List (ℕ × ℕ)
open1_lengths s ch trees lcs opening =
    (length ch, challenge_bytes s)
    ∷ (length trees, trees1_bytes s)
    ∷ (length lcs, leaf_commitments1_bytes s)
    ∷ (length opening, opening1_bytes s)
    ∷ []

pub record Open1 (s : Shape) (ch trees lcs before after : List ℕ) (r : Answer) : Type 0 where
  pub number : r.number ≡ open1_number s (open1_lengths s ch trees lcs before)
  pub count : r.count ≡ 0
  pub opening : after ≡ written r.number (opening1_of s ch trees lcs) before

-- ---- reconstruct

unfoldable pub reconstructed1 : Primitives → Shape → ℕ → List ℕ → List ℕ → List ℕ → List ℕ → Reconstructed
reconstructed1 P s b iv ch corrections opening =
    let trees = reconstructed_trees P s iv ch opening in
    record {
      commitment = commitment_of P s (verifier_leaf_commitment1 P s iv ch opening trees);
      tree = trees;
      leaf_commitments = leaf_commitments s (verifier_leaf_commitment1 P s iv ch opening trees);
      q = matrix_of s b (verifier_column s b (row1_byte P s iv trees) ch corrections);
    }

abbrev pub reconstruct1_lengths : Shape → ℕ → List ℕ → List ℕ → List ℕ → List ℕ → Reconstructed → List (ℕ × ℕ)
reconstruct1_lengths s b iv ch corrections opening x =
    (length iv, iv_bytes)
    ∷ (length ch, challenge_bytes s)
    ∷ (length corrections, corrections_bytes s b)
    ∷ (length opening, opening1_bytes s)
    ∷ (length x.commitment, hash_bytes s)
    ∷ (length x.tree, trees1_bytes s)
    ∷ (length x.leaf_commitments, leaf_commitments1_bytes s)
    ∷ (length x.q, matrix_bytes s b)
    ∷ []

pub record Reconstruct1 (P : Primitives) (s : Shape) (n : ℕ) (iv ch corrections opening : List ℕ) (before after : Reconstructed) (r : Answer) : Type 0 where
  pub number : r.number ≡ row1_number s n (reconstruct1_lengths s (n / 8) iv ch corrections opening before)
  pub count : r.count ≡ 0
  pub buffers : after ≡ written r.number (reconstructed1 P s (n / 8) iv ch corrections opening) before
