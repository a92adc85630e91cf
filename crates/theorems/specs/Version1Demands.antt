-- Demand 3 of version 1 (document 02, E12), over the contracts of its commit, open and reconstruct together, for every record of primitives whose H0 gives as many bytes as it is asked for; and what an
-- opening may depend on. No call is refused for nodes or grinding: for the number, of the challenge only the length counts. ../proofs/Version1.antt proves them.
use Rattle.std.specs.Prelude.{ℕ, ◌+◌, ◌-◌, ◌*◌, ◌/◌, ◌<◌, ◌≡◌, true, false, List, [], ◌∷◌, length, get_or}
use Rattle.spec.specs.declared.Shape.{Shape}
use Rattle.spec.specs.declared.Answer.{Answer}
use Rattle.spec.specs.Bytes.{zeros}
use Rattle.spec.specs.Shapes.{level, node_bytes, challenge_bytes, hash_bytes, depth_of, entries_of, hidden_index, matrix_bytes}
use Rattle.spec.specs.Primitives.{Primitives}
use Rattle.spec.specs.Leaves.{node_at}
use Rattle.spec.specs.Calls.{Committed, Reconstructed}
use Rattle.spec.specs.Version1.{first_node, siblings, leaf_commitment_at1, opening1_of, on_path, trees1_bytes, leaf_commitments1_bytes, opening1_bytes}
use Rattle.spec.specs.Version1Calls.{Commit1, Open1, Reconstruct1}
use Rattle.laws.specs.Lengths.{Sized}
use Rattle.theorems.specs.Demands.{ColumnRule}

-- the opening is made and accepted: b is the bytes of a row, `signer` what commit wrote, `opening` what open wrote, `verifier` what reconstruct wrote. Nodes are those of the tree of vector i
pub record Accepted1 (s : Shape) (b : ℕ) (ch : List ℕ) (signer : Committed) (opening : List ℕ) (verifier : Reconstructed) (opened checked : Answer) : Type 0 where
  pub open-number : opened.number ≡ 0
  pub open-count : opened.count ≡ 0
  pub open-bytes : opening ≡ opening1_of s ch signer.tree signer.leaf_commitments
  pub check-number : checked.number ≡ 0
  pub check-count : checked.count ≡ 0
  pub commitment : verifier.commitment ≡ signer.commitment
  pub leaf_commitments : verifier.leaf_commitments ≡ signer.leaf_commitments
  pub nodes : (i a : ℕ) → i < s.tau → a < 2 * entries_of s i - 1 → on_path s ch i a ≡ false → node_at s verifier.tree (first_node s i + a) ≡ node_at s signer.tree (first_node s i + a)
  pub hidden : (i a : ℕ) → i < s.tau → a < 2 * entries_of s i - 1 → on_path s ch i a ≡ true → node_at s verifier.tree (first_node s i + a) ≡ zeros (node_bytes s)
  pub columns : ColumnRule (level s) b ch signer.u signer.v verifier.q

-- a leaf commitment is a part of H0's output, so its length is that of the part only if H0 gives what it is asked for
abbrev pub WholeHash : Primitives → Type 0
WholeHash P = (s : Shape) (m : List ℕ) (n : ℕ) → length (P.h0 s m n) ≡ n

-- of every accepted commit and every challenge of the right length; the lengths that the host still chooses are premises
pub record Version1Demand3 (P : Primitives) : Type 0 where
  pub accepted :
      WholeHash P
      → (s : Shape) (n : ℕ) (root iv ch opening opening' : List ℕ) (signer signer' : Committed) (verifier verifier' : Reconstructed) (made opened checked : Answer)
      → Commit1 P s n root iv signer signer' made
      → made.number ≡ 0
      → Open1 s ch signer'.tree signer'.leaf_commitments opening opening' opened
      → Reconstruct1 P s n iv ch signer'.corrections opening' verifier verifier' checked
      → Sized
      ((length ch, challenge_bytes s)
      ∷ (length opening, opening1_bytes s)
      ∷ (length verifier.commitment, hash_bytes s)
      ∷ (length verifier.tree, trees1_bytes s)
      ∷ (length verifier.leaf_commitments, leaf_commitments1_bytes s)
      ∷ (length verifier.q, matrix_bytes s (n / 8))
      ∷ [])
      → Accepted1 s (n / 8) ch signer' opening' verifier' opened checked

-- the number is none of nodes, grinding bits or slots
pub record NeverRefused (r : Answer) : Type 0 where
  pub grinding : r.number ≡ 4 → ⊥
  pub nodes : r.number ≡ 5 → ⊥
  pub slots : r.number ≡ 6 → ⊥

-- whatever is lent
pub record Version1NeverRefused (P : Primitives) : Type 0 where
  pub opened : (s : Shape) (ch trees lcs before after : List ℕ) (r : Answer) → Open1 s ch trees lcs before after r → NeverRefused r
  pub checked :
      (s : Shape) (n : ℕ) (iv ch corrections opening : List ℕ) (before after : Reconstructed) (r : Answer)
      → Reconstruct1 P s n iv ch corrections opening before after r
      → NeverRefused r

-- two signers' openings, from the trees and leaf commitments lent
pub record Alike1 (s : Shape) (ch trees lcs trees₂ lcs₂ opening opening₂ : List ℕ) (r r₂ : Answer) : Type 0 where
  pub number : r.number ≡ r₂.number
  pub count : r.count ≡ r₂.count
  pub bytes :
      r.number ≡ 0
      → ((i l : ℕ) → i < s.tau → l < depth_of s i → node_at s trees (first_node s i + get_or (siblings s ch i) l 0) ≡ node_at s trees₂ (first_node s i + get_or (siblings s ch i) l 0))
      → ((i : ℕ) → i < s.tau → leaf_commitment_at1 s lcs i (hidden_index s ch i) ≡ leaf_commitment_at1 s lcs₂ i (hidden_index s ch i))
      → opening ≡ opening₂

-- two signers that agree on shape, challenge and buffer lengths get the same number and count; with answer 0, if they agree on the siblings of the paths and the hidden leaf commitments too, they get the
-- same opening, however their other keys differ
pub record Version1OpeningDepends : Type 0 where
  pub alike :
      (s : Shape) (ch trees lcs before after trees₂ lcs₂ before₂ after₂ : List ℕ) (r r₂ : Answer)
      → Open1 s ch trees lcs before after r
      → Open1 s ch trees₂ lcs₂ before₂ after₂ r₂
      → length trees ≡ length trees₂
      → length lcs ≡ length lcs₂
      → length before ≡ length before₂
      → Alike1 s ch trees lcs trees₂ lcs₂ after after₂ r r₂
