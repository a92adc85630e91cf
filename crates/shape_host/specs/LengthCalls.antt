-- The lengths of a shape's buffers as a C host asks for them: eleven numbers of four bytes, least byte first, as document 02, E4, has numbers. The record with the
-- call's name is the exported call's contract, as in `HostCalls`.
use Rattle.std.specs.Prelude.{ℕ, ◌*◌, ◌/◌, ◌≡◌, List, [], ◌∷◌, length}
use Rattle.spec.specs.declared.Shape.{Shape}
use Rattle.spec.specs.Shapes.{resolved, leaves, node_bytes, hash_bytes, tree_bytes, leaf_commitments_bytes, opening_bytes, matrix_bytes, corrections_bytes}
use Rattle.spec.specs.Calls.{written, commit_number}
use Rattle.spec.specs.HostCalls.{word_bytes}

-- s is a resolved shape and b the length of a row: the leaves; the bytes of a node, of the commitment, of the lists of indices and of nodes, of the tree, of the leaf
-- commitments, of u, of V and Q, of the corrections, of the opening
abbrev pub length_words : Shape → ℕ → List ℕ
length_words s b =
    leaves s
    ∷ node_bytes s
    ∷ hash_bytes s
    ∷ 4 * s.tau
    ∷ 4 * s.t
    ∷ tree_bytes s ∷ leaf_commitments_bytes s ∷ b ∷ matrix_bytes s b ∷ corrections_bytes s b ∷ opening_bytes s ∷ []

-- the tests are those of commit, with one slice
pub record HostLengths (s : Shape) (n : ℕ) (before after : List ℕ) (r : ℕ) : Type 0 where
  pub number : r ≡ commit_number (resolved s) n ((length before, 44) ∷ [])
  pub lengths : after ≡ written r (word_bytes (length_words (resolved s) (n / 8))) before
