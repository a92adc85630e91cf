-- What one vector, and the first vectors, leave in the buffers of either half. `lc i j` is the leaf commitment of entry j of vector i, `col i j` column j of vector i, of b bytes.
use Rattle.std.specs.Prelude.{ℕ, ◌*◌, ◌≡◌, List, take}
use Rattle.spec.specs.declared.Shape.{Shape}
use Rattle.spec.specs.Bytes.{concat}
use Rattle.spec.specs.Shapes.{leaf_commitment_bytes, hash_bytes, depth_of, first_bit, first_entry}
use Rattle.spec.specs.Primitives.{faest}
use Rattle.spec.specs.Leaves.{vector_commitments, vector_hash}

-- vector i: its leaf commitments, its columns, its hash
pub record Converted (s : Shape) (lc col : ℕ → ℕ → List ℕ) (i : ℕ) (lcs cols hash : List ℕ) : Type 0 where
  pub leaves : lcs ≡ vector_commitments s lc i
  pub columns : cols ≡ concat (depth_of s i) (col i)
  pub digest : hash ≡ vector_hash faest s lc i

-- the first n vectors stand at the front of the buffers
pub record Before (s : Shape) (b : ℕ) (lc col : ℕ → ℕ → List ℕ) (n : ℕ) (lcs cols hashes : List ℕ) : Type 0 where
  pub leaves : take (leaf_commitment_bytes s * first_entry s n) lcs ≡ concat n (vector_commitments s lc)
  pub columns : take (b * first_bit s n) cols ≡ concat n (λ i. concat (depth_of s i) (col i))
  pub digests : take (hash_bytes s * n) hashes ≡ concat n (vector_hash faest s lc)
