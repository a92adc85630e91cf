-- The lengths that the vectors ask for, and what reconstruct writes, buffer by buffer: the job is the inner one, and nothing of version 1 looks at the leaf kind. Then the two ways out of the call.
use Prim.Native.Nat.{ℕ, ◌*◌, ◌/◌}
use mathlib.Core.Path.{◌≡◌, refl, sym, ap, ◌∙◌}
use mathlib.Core.List.{List}
use lib.ListN.{length}
use borrow.Author.Tests.{ne_eqb}
use Rattle.spec.specs.declared.Shape.{Shape}
use Rattle.spec.specs.declared.Answer.{Answer}
use Rattle.spec.specs.Bytes.{concat}
use Rattle.spec.specs.Hashes.{hash1}
use Rattle.spec.specs.Shapes.{level, node_bytes, challenge_bytes, leaf_commitment_bytes, hash_bytes, key_words, rate, deeper, depth_of, entries_of, first_bit, first_entry, leaves, hidden_index, leaf_commitments_bytes, matrix_bytes}
use Rattle.spec.specs.Primitives.{faest}
use Rattle.spec.specs.Leaves.{node_at, vector_commitments, leaf_commitments, vector_hash, commitment_of}
use Rattle.spec.specs.Rows.{column_byte, matrix_of}
use Rattle.spec.specs.Verifier.{verifier_column}
use Rattle.spec.specs.Calls.{Reconstructed}
use Rattle.spec.specs.Version1.{faest1, first_node, leaf_in, leaf_key1, leaf_commitment_bytes1, hashed_leaf, leaf_seed1, leaf_commitment1, row1_byte, decommitment_from, hidden_leaf_commitment1, reconstructed_trees, verifier_leaf_commitment1, leaf_commitments1_bytes, opening1_bytes}
use Rattle.spec.specs.Version1Calls.{row1_number, reconstructed1, reconstruct1_lengths, Reconstruct1}
use Rattle.job.specs.declared.Job.{Job}
use Rattle.job.specs.Versions.{opening_length}
use Rattle.job.specs.Jobs.{entry_byte, given_commitment}
use Rattle.verifier_vector.specs.Vector.{uncorrected}
use Rattle.v1_rules.specs.Inner.{inner, job_of}
use Rattle.v1_rules.proofs.Inner.{inner-rows, inner-given}

module _ (s : Shape) (b : ℕ) (iv : List ℕ) (g : Job) (e : g ≡ job_of s b iv) where
  pub lent-lengths : (ch opening lcs q hashes : List ℕ) → length ch ≡ challenge_bytes s → length opening ≡ opening1_bytes s → length lcs ≡ leaf_commitments1_bytes s → length q ≡ matrix_bytes s b → length hashes ≡ hash_bytes s * s.tau
      → (length ch ≡ challenge_bytes g.shape) × (length opening ≡ opening_length g.version g.shape) × (length lcs ≡ leaf_commitments_bytes g.shape) × (length q ≡ matrix_bytes g.shape g.stretch.width) × (length hashes ≡ hash_bytes g.shape * g.shape.tau)
  unfolding level node_bytes challenge_bytes leaf_commitment_bytes hash_bytes deeper leaves leaf_commitments_bytes matrix_bytes leaf_commitment_bytes1 leaf_commitments1_bytes opening1_bytes opening_length
  lent-lengths ch opening lcs q hashes c o l m h = rw e (c, o, l, m, h)

  -- the columns without the corrections, as those of the caller's shape
  pub uncorrected-rows : (ch trees q : List ℕ) → q ≡ matrix_of g.shape g.stretch.width (uncorrected g.shape g.stretch.width (entry_byte g trees) ch) → q ≡ matrix_of s b (uncorrected s b (row1_byte faest1 s iv trees) ch)
  unfolding level node_bytes key_words rate deeper depth_of entries_of first_bit first_entry hidden_index faest node_at column_byte matrix_of faest1 first_node leaf_in leaf_key1 leaf_commitment_bytes1 hashed_leaf leaf_seed1 row1_byte uncorrected
  uncorrected-rows ch trees q h = (rw e at h) ∙ ap (λ (r : ℕ → ℕ → ℕ → ℕ). matrix_of (inner s) b (uncorrected (inner s) b r ch)) (inner-rows s b iv trees)

  module _ (ch cs op : List ℕ) where
    -- the buffers of the trees
    from : List ℕ → Reconstructed
    from trees =
        record {
          commitment = commitment_of faest1 s (verifier_leaf_commitment1 faest1 s iv ch op trees);
          tree = trees;
          leaf_commitments = leaf_commitments s (verifier_leaf_commitment1 faest1 s iv ch op trees);
          q = matrix_of s b (verifier_column s b (row1_byte faest1 s iv trees) ch cs);
        }

    -- the leaf commitments that the opening and the trees give, under any function of them that takes no notice of the kind
    same-given : (trees : List ℕ) → verifier_leaf_commitment1 faest1 (inner s) iv ch op trees ≡ verifier_leaf_commitment1 faest1 s iv ch op trees
    unfolding level node_bytes rate deeper depth_of entries_of first_bit first_entry hidden_index faest node_at faest1 first_node leaf_in leaf_key1 leaf_commitment_bytes1 hashed_leaf leaf_commitment1 decommitment_from hidden_leaf_commitment1 verifier_leaf_commitment1
    same-given trees = refl

    pub reconstruct-writes : (c trees l q : List ℕ) → trees ≡ reconstructed_trees faest1 s iv ch op
        → c ≡ hash1 (rate s) (concat g.shape.tau (vector_hash faest g.shape (given_commitment g ch op trees))) (hash_bytes s) → l ≡ leaf_commitments g.shape (given_commitment g ch op trees)
        → q ≡ matrix_of s b (verifier_column s b (row1_byte faest1 s iv trees) ch cs)
        → ◌≡◌ {A = Reconstructed} (record { commitment = c; tree = trees; leaf_commitments = l; q = q }) (reconstructed1 faest1 s b iv ch cs op)
    unfolding level node_bytes hash_bytes rate deeper depth_of entries_of faest vector_commitments leaf_commitments vector_hash commitment_of faest1 reconstructed1 from
    reconstruct-writes c trees l q et ec el eq =
        let leaf = inner-given s b iv trees ch op ∙ same-given trees in
        let c' : c ≡ (from trees).commitment = (rw e at ec) ∙ ap (commitment_of faest1 s) leaf in
        let l' : l ≡ (from trees).leaf_commitments = (rw e at el) ∙ ap (leaf_commitments s) leaf in
        rw (c', l', eq) (ap from et)

-- ---- the call: refused, or written

module _ (s : Shape) (n : ℕ) (iv ch cs op : List ℕ) (x : Reconstructed) (r : Answer) where
  module _ (e : r.number ≡ row1_number s n (reconstruct1_lengths s (n / 8) iv ch cs op x)) (c : r.count ≡ 0) where
    pub refused : (r.number ≡ 0 → ⊥) → Reconstruct1 faest1 s n iv ch cs op x x r
    refused h = record { number = e; count = c; buffers = rw (ne_eqb r.number 0 h) refl }

    pub written : (y : Reconstructed) → r.number ≡ 0 → y ≡ reconstructed1 faest1 s (n / 8) iv ch cs op → Reconstruct1 faest1 s n iv ch cs op x y r
    written y z w = record { number = e; count = c; buffers = rw z w }
