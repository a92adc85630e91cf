-- Demand 3 over the contracts of commit, open and reconstruct together, also of a stretch of the rows (document 02, E1), and what an opening may depend on (document 01, "Challenge, nodes and opening").
-- ../proofs/Demand3.antt proves both, for every record of primitives.
use Rattle.std.specs.Prelude.{ℕ, ◌-◌, ◌*◌, ◌/◌, ◌≤◌, ◌<◌, ◌≡◌, true, false, List, [], ◌∷◌, length, get_or}
use Rattle.spec.specs.declared.Shape.{Shape}
use Rattle.spec.specs.declared.Stretch.{Stretch}
use Rattle.spec.specs.declared.Answer.{Answer}
use Rattle.spec.specs.Bytes.{part, zeros, xor_bytes}
use Rattle.spec.specs.Challenge.{bit_at}
use Rattle.spec.specs.Tree.{covered}
use Rattle.spec.specs.Shapes.{resolved, level, node_bytes, challenge_bytes, hash_bytes, leaves, shape_ok, hidden_index, hidden_leaves, grinding_ok, planned, planned_count, tree_bytes, leaf_commitments_bytes, opening_bytes, matrix_bytes}
use Rattle.spec.specs.Primitives.{Primitives}
use Rattle.spec.specs.Leaves.{node_at}
use Rattle.spec.specs.Signer.{leaf_commitment_at, opening_of}
use Rattle.laws.specs.Lengths.{Sized}
use Rattle.spec.specs.Calls.{row_ok, stretch_ok, Committed, Commit, CommitStretch, open_lengths, Open, Reconstructed, reconstruct_lengths, Reconstruct, ReconstructStretch}

-- each of n columns of q is that of v where the challenge bit is 0, and that of v xored with u where it is 1
pub record ColumnRule (n b : ℕ) (ch u v q : List ℕ) : Type 0 where
  pub at-0 : (c : ℕ) → c < n → bit_at ch c ≡ 0 → part q (b * c) b ≡ part v (b * c) b
  pub at_1 : (c : ℕ) → c < n → bit_at ch c ≡ 1 → part q (b * c) b ≡ xor_bytes (part v (b * c) b) u

-- the opening is made and accepted: s is the resolved shape, b the bytes of a row, or of its stretch, `signer` what commit wrote, `opening` what open wrote, `verifier` what
-- reconstruct wrote
pub record Accepted (s : Shape) (b : ℕ) (ch : List ℕ) (signer : Committed) (opening : List ℕ) (verifier : Reconstructed) (opened checked : Answer) : Type 0 where
  pub open-number : opened.number ≡ 0
  pub open-count : opened.count ≡ planned_count s ch
  pub open-bytes : opening ≡ opening_of s ch signer.tree signer.leaf_commitments
  pub check-number : checked.number ≡ 0
  pub check-count : checked.count ≡ planned_count s ch
  pub commitment : verifier.commitment ≡ signer.commitment
  pub leaf_commitments : verifier.leaf_commitments ≡ signer.leaf_commitments
  pub nodes : (a : ℕ) → a < 2 * leaves s - 1 → covered (hidden_leaves s ch) a ≡ false → node_at s verifier.tree a ≡ node_at s signer.tree a
  pub hidden : (a : ℕ) → a < 2 * leaves s - 1 → covered (hidden_leaves s ch) a ≡ true → node_at s verifier.tree a ≡ zeros (node_bytes s)
  pub columns : ColumnRule (level s) b ch signer.u signer.v verifier.q

-- the number is 5 exactly when the grinding bits are clear and more nodes are needed than the shape allows
pub record Five (s : Shape) (ch : List ℕ) (r : Answer) : Type 0 where
  pub only : r.number ≡ 5 → (grinding_ok s ch ≡ true) × (s.t < planned_count s ch)
  pub always : grinding_ok s ch ≡ true → s.t < planned_count s ch → r.number ≡ 5
  pub count : r.number ≡ 5 → r.count ≡ planned_count s ch

-- Demand 3. In `accepted` the lengths that the host still chooses are premises; those of the tree, the leaf commitments, the corrections and the opening
-- follow from the calls before. All columns are meant, as many as the level has bits.
pub record Demand3 (P : Primitives) : Type 0 where
  pub accepted :
      (s : Shape) (n : ℕ) (root iv ch opening opening' : List ℕ) (signer signer' : Committed) (verifier verifier' : Reconstructed) (made opened checked : Answer)
      → Commit P s n root iv signer signer' made
      → made.number ≡ 0
      → Open s ch signer'.tree signer'.leaf_commitments opening opening' opened
      → Reconstruct P s n iv ch signer'.corrections opening' verifier verifier' checked
      → Sized
      ((length ch, challenge_bytes (resolved s))
      ∷ (length opening, opening_bytes (resolved s))
      ∷ (length verifier.commitment, hash_bytes (resolved s))
      ∷ (length verifier.tree, tree_bytes (resolved s))
      ∷ (length verifier.leaf_commitments, leaf_commitments_bytes (resolved s))
      ∷ (length verifier.q, matrix_bytes (resolved s) (n / 8))
      ∷ [])
      → grinding_ok (resolved s) ch ≡ true
      → planned_count (resolved s) ch ≤ (resolved s).t
      → Accepted (resolved s) (n / 8) ch signer' opening' verifier' opened checked
  -- the same of a stretch: the column rule speaks of the stretch of each column and of u
  pub accepted-stretch :
      (s : Shape) (n : ℕ) (z : Stretch) (root iv ch opening opening' : List ℕ) (signer signer' : Committed) (verifier verifier' : Reconstructed) (made opened checked : Answer)
      → CommitStretch P s n z root iv signer signer' made
      → made.number ≡ 0
      → Open s ch signer'.tree signer'.leaf_commitments opening opening' opened
      → ReconstructStretch P s n z iv ch signer'.corrections opening' verifier verifier' checked
      → Sized
      ((length ch, challenge_bytes (resolved s))
      ∷ (length opening, opening_bytes (resolved s))
      ∷ (length verifier.commitment, hash_bytes (resolved s))
      ∷ (length verifier.tree, tree_bytes (resolved s))
      ∷ (length verifier.leaf_commitments, leaf_commitments_bytes (resolved s))
      ∷ (length verifier.q, matrix_bytes (resolved s) z.width)
      ∷ [])
      → grinding_ok (resolved s) ch ≡ true
      → planned_count (resolved s) ch ≤ (resolved s).t
      → Accepted (resolved s) z.width ch signer' opening' verifier' opened checked
  pub open-five :
      (s : Shape) (ch tree lcs opening opening' : List ℕ) (r : Answer)
      → Open s ch tree lcs opening opening' r
      → shape_ok (resolved s) ≡ true
      → Sized (open_lengths (resolved s) ch tree lcs opening)
      → Five (resolved s) ch r
  pub check-five :
      (s : Shape) (n : ℕ) (iv ch corrections opening : List ℕ) (x x' : Reconstructed) (r : Answer)
      → Reconstruct P s n iv ch corrections opening x x' r
      → shape_ok (resolved s) ≡ true
      → row_ok n ≡ true
      → Sized (reconstruct_lengths (resolved s) (n / 8) iv ch corrections opening x)
      → Five (resolved s) ch r
  pub check-five-stretch :
      (s : Shape) (n : ℕ) (z : Stretch) (iv ch corrections opening : List ℕ) (x x' : Reconstructed) (r : Answer)
      → ReconstructStretch P s n z iv ch corrections opening x x' r
      → shape_ok (resolved s) ≡ true
      → row_ok n ≡ true
      → stretch_ok (n / 8) z ≡ true
      → Sized (reconstruct_lengths (resolved s) z.width iv ch corrections opening x)
      → Five (resolved s) ch r

-- two signers' openings, from the trees and leaf commitments lent; s is the resolved shape
pub record Alike (s : Shape) (ch tree lcs tree₂ lcs₂ opening opening₂ : List ℕ) (r r₂ : Answer) : Type 0 where
  pub number : r.number ≡ r₂.number
  pub count : r.count ≡ r₂.count
  pub bytes :
      r.number ≡ 0
      → ((m : ℕ) → m < planned_count s ch → node_at s tree (get_or (planned s ch) m 0) ≡ node_at s tree₂ (get_or (planned s ch) m 0))
      → ((i : ℕ) → i < s.tau → leaf_commitment_at s lcs i (hidden_index s ch i) ≡ leaf_commitment_at s lcs₂ i (hidden_index s ch i))
      → opening ≡ opening₂

-- two signers that agree on shape, challenge and buffer lengths get the same number and count; with answer 0, if they agree on the revealed nodes and the
-- hidden leaf commitments too, they get the same opening, however their other keys differ
pub record OpeningDepends : Type 0 where
  pub alike :
      (s : Shape) (ch tree lcs before after tree₂ lcs₂ before₂ after₂ : List ℕ) (r r₂ : Answer)
      → Open s ch tree lcs before after r
      → Open s ch tree₂ lcs₂ before₂ after₂ r₂
      → length tree ≡ length tree₂
      → length lcs ≡ length lcs₂
      → length before ≡ length before₂
      → Alike (resolved s) ch tree lcs tree₂ lcs₂ after after₂ r r₂
