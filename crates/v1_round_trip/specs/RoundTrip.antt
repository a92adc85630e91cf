-- Demand 3 of one run of version 1's three calls: the contract of each call, with the buffers that the calls before it wrote, and what follows from the three together.
use Rattle.std.specs.Prelude.{ℕ, ◌/◌, ◌≡◌, List, [], ◌∷◌, length}
use Rattle.spec.specs.declared.Shape.{Shape}
use Rattle.spec.specs.declared.Answer.{Answer}
use Rattle.spec.specs.Shapes.{challenge_bytes, hash_bytes, matrix_bytes}
use Rattle.spec.specs.Calls.{Committed, Reconstructed}
use Rattle.spec.specs.Version1.{faest1, trees1_bytes, leaf_commitments1_bytes, opening1_bytes}
use Rattle.spec.specs.Version1Calls.{Commit1, Open1, Reconstruct1}
use Rattle.laws.specs.Lengths.{Sized}
use Rattle.theorems.specs.Version1Demands.{Accepted1}

pub record RoundTrip1 (s : Shape) (n : ℕ) (root iv ch : List ℕ) (signer signer' : Committed) (opening opening' : List ℕ) (verifier verifier' : Reconstructed) (made opened checked : Answer) : Type 0 where
  pub commits : Commit1 faest1 s n root iv signer signer' made
  pub opens : Open1 s ch signer'.tree signer'.leaf_commitments opening opening' opened
  pub checks : Reconstruct1 faest1 s n iv ch signer'.corrections opening' verifier verifier' checked
  -- the opening is made and accepted
  pub accepted :
      made.number ≡ 0
      → Sized
      ((length ch, challenge_bytes s)
      ∷ (length opening, opening1_bytes s)
      ∷ (length verifier.commitment, hash_bytes s)
      ∷ (length verifier.tree, trees1_bytes s)
      ∷ (length verifier.leaf_commitments, leaf_commitments1_bytes s)
      ∷ (length verifier.q, matrix_bytes s (n / 8))
      ∷ [])
      → Accepted1 s (n / 8) ch signer' opening' verifier' opened checked
