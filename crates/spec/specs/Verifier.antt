-- Document 000, figures 5.5 and 5.9: what the checking half computes from an opening.
use Rattle.std.specs.Prelude.{ℕ, zero, suc, ◌+◌, ◌-◌, ◌*◌, Bool, cond, List, ◌++◌, eqb, get_or, drop}
use Rattle.std.specs.Int.Bits.{bit_xor}
use Rattle.spec.specs.declared.Shape.{Shape}
use Rattle.spec.specs.Bytes.{part, tabulate, zeros, all_zero, index_of}
use Rattle.spec.specs.Challenge.{bit_at}
use Rattle.spec.specs.Tree.{covered, expand_tree}
use Rattle.spec.specs.Shapes.{node_bytes, leaf_commitment_bytes, first_bit, leaves, hidden_index, hidden_leaves, planned, planned_count}
use Rattle.spec.specs.Primitives.{Primitives}
use Rattle.spec.specs.Leaves.{leaf_key, children, leaf_commitment}
use Rattle.spec.specs.Rows.{column_byte}

-- ---- the parts of an opening

-- the hidden leaf commitment of vector i
unfoldable pub hidden_leaf_commitment : Shape → List ℕ → ℕ → List ℕ
hidden_leaf_commitment s opening i = part opening (leaf_commitment_bytes s * i) (leaf_commitment_bytes s)

-- slot m, of a revealed node while m is below the count
unfoldable pub slot : Shape → List ℕ → ℕ → List ℕ
slot s opening m = part opening (leaf_commitment_bytes s * s.tau + node_bytes s * m) (node_bytes s)

-- the unused slots hold zeros, else refusal 6: of figure 5.5, line 22, only "not all zeroes" refuses
unfoldable pub slots_ok : Shape → List ℕ → List ℕ → Bool
slots_ok s ch opening = all_zero (drop (leaf_commitment_bytes s * s.tau + node_bytes s * planned_count s ch) opening)

-- ---- BAVC.Reconstruct, figure 5.5

-- a child c of a covered node: zeros if it is covered too; else it is revealed, and its bytes stand in the opening
unfoldable pub given_node : Shape → List ℕ → List ℕ → ℕ → List ℕ
given_node s ch opening c = cond (covered (hidden_leaves s ch) c) (zeros (node_bytes s)) (slot s opening (index_of c (planned s ch)))

-- the two children of node a, whose bytes are x: a node that is not covered is expanded as the signer expands it
unfoldable pub reconstructed_children : Primitives → Shape → List ℕ → List ℕ → List ℕ → ℕ → List ℕ → List ℕ
reconstructed_children P s iv ch opening a x =
    cond (covered (hidden_leaves s ch) a)
    (given_node s ch opening (2 * a + 1) ++ given_node s ch opening (2 * a + 2))
    (children P s iv a x)

-- node 0 is covered
unfoldable pub reconstructed_tree : Primitives → Shape → List ℕ → List ℕ → List ℕ → List ℕ
reconstructed_tree P s iv ch opening = expand_tree (node_bytes s) (zeros (node_bytes s)) (reconstructed_children P s iv ch opening) (leaves s - 1)

-- figure 5.5, lines 31 to 34: the leaf commitment of entry j of vector i
unfoldable pub verifier_leaf_commitment : Primitives → Shape → List ℕ → List ℕ → List ℕ → List ℕ → ℕ → ℕ → List ℕ
verifier_leaf_commitment P s iv ch opening tree i j =
    cond (eqb j (hidden_index s ch i)) (hidden_leaf_commitment s opening i) (leaf_commitment P s iv i (leaf_key s tree i j))

-- ---- VOLEReconstruct, figure 5.9, from rows and corrections of b bytes: `row i e p` is byte p of the row of entry e of vector i

-- what the correction adds to byte p of column j of vector i: nothing in vector 0, or where the challenge bit is 0
unfoldable pub correction_byte : Shape → ℕ → List ℕ → List ℕ → ℕ → ℕ → ℕ → ℕ
correction_byte s b ch corrections zero j p = 0
correction_byte s b ch corrections (suc i) j p = bit_at ch (first_bit s (suc i) + j) * get_or corrections (b * i + p) 0

-- column j of vector i of Q: entry e goes under the number e xor the hidden index, so the hidden entry has number 0 and enters no column
unfoldable pub verifier_column : Shape → ℕ → (ℕ → ℕ → ℕ → ℕ) → List ℕ → List ℕ → ℕ → ℕ → List ℕ
verifier_column s b row ch corrections i j =
    tabulate b (λ p. bit_xor (column_byte s row (λ e. bit_xor e (hidden_index s ch i)) i j p) (correction_byte s b ch corrections i j p))
