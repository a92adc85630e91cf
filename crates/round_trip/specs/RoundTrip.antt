-- Demand 3 of one run of the three calls, of whole rows or of a stretch of them: the contract of each call, with the buffers that the calls before it wrote, and what
-- follows from the three together.
use Rattle.std.specs.Prelude.{ℕ, ◌/◌, ◌≤◌, ◌≡◌, true, List, [], ◌∷◌, length}
use Rattle.spec.specs.declared.Shape.{Shape}
use Rattle.spec.specs.declared.Stretch.{Stretch}
use Rattle.spec.specs.declared.Answer.{Answer}
use Rattle.spec.specs.Shapes.{resolved, shape_ok, challenge_bytes, hash_bytes, grinding_ok, planned_count, tree_bytes, leaf_commitments_bytes, opening_bytes, matrix_bytes}
use Rattle.spec.specs.Primitives.{faest}
use Rattle.spec.specs.Calls.{row_ok, stretch_ok, Committed, Commit, CommitStretch, open_lengths, Open, Reconstructed, reconstruct_lengths, Reconstruct, ReconstructStretch}
use Rattle.laws.specs.Lengths.{Sized}
use Rattle.theorems.specs.Demands.{Accepted, Five}

-- what the calls give together: b is the bytes of a row, or of its stretch; `RowsOk` is what reconstruct tests of them
pub record Together (s : Shape) (b : ℕ) (RowsOk : Type 0) (iv ch : List ℕ) (signer' : Committed) (opening opening' : List ℕ) (verifier verifier' : Reconstructed) (made opened checked : Answer) : Type 0 where
  -- the opening is made and accepted
  pub accepted :
      made.number ≡ 0
      → Sized
      ((length ch, challenge_bytes (resolved s))
      ∷ (length opening, opening_bytes (resolved s))
      ∷ (length verifier.commitment, hash_bytes (resolved s))
      ∷ (length verifier.tree, tree_bytes (resolved s))
      ∷ (length verifier.leaf_commitments, leaf_commitments_bytes (resolved s))
      ∷ (length verifier.q, matrix_bytes (resolved s) b)
      ∷ [])
      → grinding_ok (resolved s) ch ≡ true
      → planned_count (resolved s) ch ≤ (resolved s).t
      → Accepted (resolved s) b ch signer' opening' verifier' opened checked
  -- 5 exactly for an excess
  pub open-five :
      shape_ok (resolved s) ≡ true
      → Sized (open_lengths (resolved s) ch signer'.tree signer'.leaf_commitments opening)
      → Five (resolved s) ch opened
  pub check-five :
      shape_ok (resolved s) ≡ true
      → RowsOk
      → Sized (reconstruct_lengths (resolved s) b iv ch signer'.corrections opening' verifier)
      → Five (resolved s) ch checked

-- with whole rows
pub record RoundTrip (s : Shape) (n : ℕ) (root iv ch : List ℕ) (signer signer' : Committed) (opening opening' : List ℕ) (verifier verifier' : Reconstructed) (made opened checked : Answer) : Type 0 where
  pub commits : Commit faest s n root iv signer signer' made
  pub opens : Open s ch signer'.tree signer'.leaf_commitments opening opening' opened
  pub checks : Reconstruct faest s n iv ch signer'.corrections opening' verifier verifier' checked
  pub together : Together s (n / 8) (row_ok n ≡ true) iv ch signer' opening opening' verifier verifier' made opened checked

-- with a stretch of the rows
pub record RoundTripStretch (s : Shape) (n : ℕ) (z : Stretch) (root iv ch : List ℕ) (signer signer' : Committed) (opening opening' : List ℕ) (verifier verifier' : Reconstructed) (made opened checked : Answer) : Type 0 where
  pub commits : CommitStretch faest s n z root iv signer signer' made
  pub opens : Open s ch signer'.tree signer'.leaf_commitments opening opening' opened
  pub checks : ReconstructStretch faest s n z iv ch signer'.corrections opening' verifier verifier' checked
  pub together : Together s z.width ((row_ok n ≡ true) × (stretch_ok (n / 8) z ≡ true)) iv ch signer' opening opening' verifier verifier' made opened checked
