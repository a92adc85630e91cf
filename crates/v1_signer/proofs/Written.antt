-- The lengths that the vectors ask for, and what commit writes, buffer by buffer: the job is the inner one, and nothing of version 1 looks at the leaf kind. Then the two ways out of each call.
use Prim.Native.Nat.{ℕ, ◌*◌, ◌/◌}
use mathlib.Core.Path.{◌≡◌, refl, sym, ap, ◌∙◌}
use mathlib.Core.List.{List}
use lib.ListN.{length}
use borrow.Author.Tests.{ne_eqb}
use Rattle.spec.specs.declared.Shape.{Shape}
use Rattle.spec.specs.declared.Answer.{Answer}
use Rattle.spec.specs.Bytes.{concat}
use Rattle.spec.specs.Hashes.{hash1}
use Rattle.spec.specs.Shapes.{level, node_bytes, leaf_commitment_bytes, hash_bytes, rate, deeper, leaves, leaf_commitments_bytes, matrix_bytes, corrections_bytes}
use Rattle.spec.specs.Primitives.{faest}
use Rattle.spec.specs.Leaves.{leaf_commitments, vector_hash, commitment_of}
use Rattle.spec.specs.Rows.{matrix_of}
use Rattle.spec.specs.Signer.{signer_u, signer_column, corrections}
use Rattle.spec.specs.Calls.{Committed}
use Rattle.spec.specs.Version1.{faest1, signer_trees, leaf_commitment_bytes1, signer_leaf_commitment1, row1_byte, opening1_of, leaf_commitments1_bytes}
use Rattle.spec.specs.Version1Calls.{row1_number, open1_number, committed1, commit1_lengths, open1_lengths, Commit1, Open1}
use Rattle.job.specs.declared.Job.{Job}
use Rattle.job.specs.Jobs.{entry_commitment, entry_byte}
use Rattle.v1_rules.specs.Inner.{inner, job_of}
use Rattle.v1_rules.proofs.Inner.{inner-commits, inner-forest, inner-rows, inner-commitments}

module _ (s : Shape) (b : ℕ) (iv : List ℕ) (g : Job) (e : g ≡ job_of s b iv) where
  pub lent-lengths : (lcs hashes u v k : List ℕ) → length lcs ≡ leaf_commitments1_bytes s → length hashes ≡ hash_bytes s * s.tau → length u ≡ b → length v ≡ matrix_bytes s b → length k ≡ corrections_bytes s b
      → (length lcs ≡ leaf_commitments_bytes g.shape) × (length hashes ≡ hash_bytes g.shape * g.shape.tau) × (length u ≡ g.stretch.width) × (length v ≡ matrix_bytes g.shape g.stretch.width) × (length k ≡ corrections_bytes g.shape g.stretch.width)
  unfolding level node_bytes leaf_commitment_bytes hash_bytes deeper leaves leaf_commitments_bytes matrix_bytes corrections_bytes leaf_commitment_bytes1 leaf_commitments1_bytes
  lent-lengths lcs hashes u v k l h a c d = rw e (l, h, a, c, d)

  -- ---- what is written

  module _ (root : List ℕ) where
    -- the buffers of the trees
    from : List ℕ → Committed
    from trees =
        record {
          commitment = commitment_of faest1 (inner s) (signer_leaf_commitment1 faest1 (inner s) iv trees);
          tree = trees;
          leaf_commitments = leaf_commitments (inner s) (signer_leaf_commitment1 faest1 (inner s) iv trees);
          u = signer_u (inner s) b (row1_byte faest1 (inner s) iv trees);
          v = matrix_of (inner s) b (signer_column (inner s) b (row1_byte faest1 (inner s) iv trees));
          corrections = corrections (inner s) b (row1_byte faest1 (inner s) iv trees);
        }

    pub commit-writes : (c trees l u v k : List ℕ) → trees ≡ signer_trees faest1 s root iv
        → c ≡ hash1 (rate s) (concat g.shape.tau (vector_hash faest g.shape (entry_commitment g trees))) (hash_bytes s) → l ≡ leaf_commitments g.shape (entry_commitment g trees)
        → u ≡ signer_u g.shape g.stretch.width (entry_byte g trees) → v ≡ matrix_of g.shape g.stretch.width (signer_column g.shape g.stretch.width (entry_byte g trees))
        → k ≡ corrections g.shape g.stretch.width (entry_byte g trees)
        → ◌≡◌ {A = Committed} (record { commitment = c; tree = trees; leaf_commitments = l; u = u; v = v; corrections = k }) (committed1 faest1 s b root iv)
    unfolding level node_bytes hash_bytes rate faest vector_hash commitment_of faest1 committed1 from
    commit-writes c trees l u v k et ec el eu ev ek =
        let rows = inner-rows s b iv trees in
        let leaf = inner-commitments s b iv trees in
        let c' : c ≡ (from trees).commitment = (rw e at ec) ∙ ap (commitment_of faest1 (inner s)) leaf in
        let l' : l ≡ (from trees).leaf_commitments = (rw e at el) ∙ ap (leaf_commitments (inner s)) leaf in
        let u' : u ≡ (from trees).u = (rw e at eu) ∙ ap (signer_u (inner s) b) rows in
        let v' : v ≡ (from trees).v = (rw e at ev) ∙ ap (λ (r : ℕ → ℕ → ℕ → ℕ). matrix_of (inner s) b (signer_column (inner s) b r)) rows in
        let k' : k ≡ (from trees).corrections = (rw e at ek) ∙ ap (corrections (inner s) b) rows in
        rw (c', l', u', v', k') (ap from (et ∙ inner-forest s root iv)) ∙ inner-commits s b root iv

-- ---- the calls: refused, or written

module _ (s : Shape) (n : ℕ) (root iv : List ℕ) (x : Committed) (r : Answer) where
  module _ (e : r.number ≡ row1_number s n (commit1_lengths s (n / 8) root iv x)) (c : r.count ≡ 0) where
    pub commit-refused : (r.number ≡ 0 → ⊥) → Commit1 faest1 s n root iv x x r
    commit-refused h = record { number = e; count = c; buffers = rw (ne_eqb r.number 0 h) refl }

    pub commit-written : (y : Committed) → r.number ≡ 0 → y ≡ committed1 faest1 s (n / 8) root iv → Commit1 faest1 s n root iv x y r
    commit-written y z w = record { number = e; count = c; buffers = rw z w }

module _ (s : Shape) (ch trees lcs x : List ℕ) (r : Answer) where
  module _ (e : r.number ≡ open1_number s (open1_lengths s ch trees lcs x)) (c : r.count ≡ 0) where
    pub open-refused : (r.number ≡ 0 → ⊥) → Open1 s ch trees lcs x x r
    open-refused h = record { number = e; count = c; opening = rw (ne_eqb r.number 0 h) refl }

    pub open-written : (y : List ℕ) → r.number ≡ 0 → y ≡ opening1_of s ch trees lcs → Open1 s ch trees lcs x y r
    open-written y z w = record { number = e; count = c; opening = rw z w }
