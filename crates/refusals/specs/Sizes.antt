-- The lengths of the buffers of commit, open and reconstruct, each beside what it must be: with the lengths of lists, commit_lengths, open_lengths and reconstruct_lengths of
-- spec's Calls.
use Rattle.std.specs.Prelude.{ℕ, List, [], ◌∷◌}
use Rattle.spec.specs.declared.Shape.{Shape}
use Rattle.spec.specs.Shapes.{node_bytes, challenge_bytes, hash_bytes, iv_bytes, tree_bytes, leaf_commitments_bytes, opening_bytes, matrix_bytes, corrections_bytes}
use Rattle.refusals.specs.declared.CommitLengths.{CommitLengths}
use Rattle.refusals.specs.declared.OpenLengths.{OpenLengths}
use Rattle.refusals.specs.declared.ReconstructLengths.{ReconstructLengths}

-- b is the width of the stretch, here and below
abbrev pub commit_sizes : Shape → ℕ → CommitLengths → List (ℕ × ℕ)
commit_sizes s b x =
    (x.root, node_bytes s)
    ∷ (x.iv, iv_bytes)
    ∷ (x.commitment, hash_bytes s)
    ∷ (x.tree, tree_bytes s)
    ∷ (x.leaf_commitments, leaf_commitments_bytes s)
    ∷ (x.u, b)
    ∷ (x.v, matrix_bytes s b)
    ∷ (x.corrections, corrections_bytes s b)
    ∷ []

abbrev pub open_sizes : Shape → OpenLengths → List (ℕ × ℕ)
open_sizes s x = (x.challenge, challenge_bytes s) ∷ (x.tree, tree_bytes s) ∷ (x.leaf_commitments, leaf_commitments_bytes s) ∷ (x.opening, opening_bytes s) ∷ []

abbrev pub reconstruct_sizes : Shape → ℕ → ReconstructLengths → List (ℕ × ℕ)
reconstruct_sizes s b x =
    (x.iv, iv_bytes)
    ∷ (x.challenge, challenge_bytes s)
    ∷ (x.corrections, corrections_bytes s b)
    ∷ (x.opening, opening_bytes s)
    ∷ (x.commitment, hash_bytes s)
    ∷ (x.tree, tree_bytes s)
    ∷ (x.leaf_commitments, leaf_commitments_bytes s)
    ∷ (x.q, matrix_bytes s b)
    ∷ []
