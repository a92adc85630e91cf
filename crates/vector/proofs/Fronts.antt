-- The buffers of the first vectors with one vector more, and the whole buffers, of either half. By the laws of strings put one behind another.
use Prim.Native.Nat.{ℕ, ◌+◌, ◌-◌, ◌*◌, ◌≤◌}
use mathlib.Core.Path.{◌≡◌, sym, ap, ap₂, ◌∙◌}
use mathlib.Core.Bool.{true}
use mathlib.Core.List.{List, ◌++◌}
use native.Mathlib.Nat.{mul-zero}
use native.Mathlib.Omega.{arith}
use lib.ListN.{length, take}
use Rattle.spec.specs.declared.Shape.{Shape}
use Rattle.spec.specs.Bytes.{concat, zeros}
use Rattle.spec.specs.Shapes.{leaf_commitment_bytes, hash_bytes, depth_of, entries_of, first_bit, first_entry, shape_ok, leaf_commitments_bytes, matrix_bytes}
use Rattle.spec.specs.Primitives.{faest}
use Rattle.spec.specs.Leaves.{vector_commitments, leaf_commitments, vector_hash}
use Rattle.spec.specs.Rows.{matrix_of}
use Rattle.planning_laws.proofs.Depths.{bit-none, entry-none}
use Rattle.vector.specs.Vectors.{Converted, Before}
use Rattle.vector.proofs.Buffers.{put-behind, put-block, put_all, commitments-next, columns-next, all-commitments, all-columns}

module _ (s : Shape) (b : ℕ) (lc col : ℕ → ℕ → List ℕ) where
  pub before-none : (lcs cols hashes : List ℕ) → Before s b lc col 0 lcs cols hashes
  unfolding concat
  before-none lcs cols hashes =
      record {
        leaves = ap (λ (n : ℕ). take n lcs) (ap (λ (n : ℕ). leaf_commitment_bytes s * n) (entry-none s) ∙ mul-zero (leaf_commitment_bytes s));
        columns = ap (λ (n : ℕ). take n cols) (ap (λ (n : ℕ). b * n) (bit-none s) ∙ mul-zero b);
        digests = ap (λ (n : ℕ). take n hashes) (mul-zero (hash_bytes s));
      }

  -- one vector more, in parts that come back from it; l and c are where they begin, k is the length of a hash
  pub before_more : (i l c k : ℕ) (lcs cols hashes x y h x' y' h' : List ℕ) → l ≡ leaf_commitment_bytes s * first_entry s i → c ≡ b * first_bit s i → k ≡ hash_bytes s
      → leaf_commitment_bytes s * first_entry s (i + 1) ≤ length lcs → b * first_bit s (i + 1) ≤ length cols → k * i + k ≤ length hashes
      → length x ≡ leaf_commitment_bytes s * entries_of s i → length y ≡ b * depth_of s i → length h ≡ k
      → Converted s lc col i x y h → Before s b lc col i lcs cols hashes
      → Before s b lc col (i + 1) (take l lcs ++ (x ++ x')) (take c cols ++ (y ++ y')) (take (k * i) hashes ++ (h ++ h'))
  before_more i l c k lcs cols hashes x y h x' y' h' el ec ek hl hc hh lx ly lz r f =
      record {
        leaves = put-behind (vector_commitments s lc) l (leaf_commitment_bytes s * first_entry s i) (leaf_commitment_bytes s * entries_of s i) (leaf_commitment_bytes s * first_entry s (i + 1)) i lcs x x' el (commitments-next s i) hl lx r.leaves f.leaves;
        columns = put-behind (λ i. concat (depth_of s i) (col i)) c (b * first_bit s i) (b * depth_of s i) (b * first_bit s (i + 1)) i cols y y' ec (columns-next s i b) hc ly r.columns f.columns;
        digests =
            ap (λ (n : ℕ). take (n * (i + 1)) (take (k * i) hashes ++ (h ++ h'))) (sym ek)
            ∙ put-block (vector_hash faest s lc) k i hashes h h' hh lz r.digest (ap (λ (n : ℕ). take (n * i) hashes) ek ∙ f.digests);
      }

  -- all of them; behind the columns that they use the buffer is cleared
  pub before-all : shape_ok s ≡ true → (used : ℕ) (lcs cols cols' hashes : List ℕ) → length lcs ≡ leaf_commitments_bytes s → length cols ≡ matrix_bytes s b → length hashes ≡ hash_bytes s * s.tau
      → used ≡ b * first_bit s s.tau → cols' ≡ take used cols ++ zeros (length cols - used) → Before s b lc col s.tau lcs cols hashes
      → (lcs ≡ leaf_commitments s lc) × (cols' ≡ matrix_of s b col) × (hashes ≡ concat s.tau (vector_hash faest s lc))
  unfolding leaf_commitments matrix_of
  before-all ok used lcs cols cols' hashes hl hc hh e clear f =
      let rest : length cols - used ≡ b * s.w = (let k = all-columns s ok b in omega arith) in (
        put_all (vector_commitments s lc) (leaf_commitment_bytes s * first_entry s s.tau) s.tau lcs (hl ∙ sym (all-commitments s ok)) f.leaves,
        clear ∙ ap₂ (λ (x : List ℕ) (n : ℕ). x ++ zeros n) (ap (λ (n : ℕ). take n cols) e ∙ f.columns) rest,
        put_all (vector_hash faest s lc) (hash_bytes s * s.tau) s.tau hashes hh f.digests,
      )
