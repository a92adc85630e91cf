-- Document 000, figure 5.4 and section 5.5.2: what the signing half computes.
use Rattle.std.specs.Prelude.{ℕ, ◌+◌, ◌-◌, ◌*◌, List, ◌++◌, get_or}
use Rattle.std.specs.Int.Bits.{bit_xor}
use Rattle.spec.specs.declared.Shape.{Shape}
use Rattle.spec.specs.Bytes.{part, tabulate, concat, zeros}
use Rattle.spec.specs.Tree.{expand_tree}
use Rattle.spec.specs.Shapes.{node_bytes, leaf_commitment_bytes, first_entry, leaves, hidden_index, planned, planned_count}
use Rattle.spec.specs.Primitives.{Primitives}
use Rattle.spec.specs.Leaves.{node_at, leaf_key, children, leaf_commitment}
use Rattle.spec.specs.Rows.{u_byte, column_byte}

-- ---- BAVC.Commit, figure 5.4

unfoldable pub signer_tree : Primitives → Shape → List ℕ → List ℕ → List ℕ
signer_tree P s root iv = expand_tree (node_bytes s) root (children P s iv) (leaves s - 1)

-- com_(i,j)
unfoldable pub signer_leaf_commitment : Primitives → Shape → List ℕ → List ℕ → ℕ → ℕ → List ℕ
signer_leaf_commitment P s iv tree i j = leaf_commitment P s iv i (leaf_key s tree i j)

-- ---- VOLECommit, section 5.5.2, from rows of b bytes: `row i e p` is byte p of the row of entry e of vector i

-- the signer's u is that of vector 0
unfoldable pub signer_u : Shape → ℕ → (ℕ → ℕ → ℕ → ℕ) → List ℕ
signer_u s b row = tabulate b (u_byte s row 0)

-- column j of vector i of V
unfoldable pub signer_column : Shape → ℕ → (ℕ → ℕ → ℕ → ℕ) → ℕ → ℕ → List ℕ
signer_column s b row i j = tabulate b (column_byte s row (λ e. e) i j)

-- correction i, for i from 1: the xor of the u of vectors 0 and i
unfoldable pub correction : Shape → ℕ → (ℕ → ℕ → ℕ → ℕ) → ℕ → List ℕ
correction s b row i = tabulate b (λ p. bit_xor (u_byte s row 0 p) (u_byte s row i p))

unfoldable pub corrections : Shape → ℕ → (ℕ → ℕ → ℕ → ℕ) → List ℕ
corrections s b row = concat (s.tau - 1) (λ i. correction s b row (i + 1))

-- ---- BAVC.Open, figure 5.4, from a tree and leaf commitments as lent

-- the leaf commitment of entry j of vector i among the lent ones
unfoldable pub leaf_commitment_at : Shape → List ℕ → ℕ → ℕ → List ℕ
leaf_commitment_at s lcs i j = part lcs (leaf_commitment_bytes s * (first_entry s i + j)) (leaf_commitment_bytes s)

-- the hidden leaf commitments in vector order, the revealed nodes in revealing order, zeros in the unused slots
unfoldable pub opening_of : Shape → List ℕ → List ℕ → List ℕ → List ℕ
opening_of s ch tree lcs =
    (concat s.tau (λ i. leaf_commitment_at s lcs i (hidden_index s ch i))
    ++ concat (planned_count s ch) (λ m. node_at s tree (get_or (planned s ch) m 0)))
    ++ zeros (node_bytes s * (s.t - planned_count s ch))
