-- Document 01's "Misreadings to exclude": each misread rule is written out, and at the shape of the worked example it gives something else than the
-- definitions do. By computing one element in which the two differ.
use Prim.Native.Nat.{ℕ, zero, suc, ◌+◌, ◌-◌, ◌*◌}
use mathlib.Core.Path.{◌≡◌, subst}
use mathlib.Core.Bool.{Bool, not, cond}
use mathlib.Core.List.{List, [], ◌∷◌, ◌++◌}
use lib.Dec.{T, T_not, eqb, eqb_refl, leb}
use lib.ListN.{length, get_or, take}
use Rattle.spec.specs.declared.Shape.{Shape}
use Rattle.spec.specs.Bytes.{tabulate, concat, zeros, all_zero, xor_below, number}
use Rattle.spec.specs.Tree.{parent, is_ancestor_within, is_ancestor, some, covered, sibling_to_reveal, revealed_from, revealed, node_count}
use Rattle.spec.specs.Challenge.{bit_at, bits_at, index_at, clear_at}
use Rattle.spec.specs.Shapes.{level, node_bytes, challenge_bytes, leaf_commitment_bytes, deeper, depth_of, entries_of, first_bit, first_entry, leaves, leaf_of, shape_ok, hidden_index, hidden_leaf, hidden_leaves, grinding_ok, planned, planned_count, tree_bytes, leaf_commitments_bytes, opening_bytes}
use Rattle.spec.specs.Primitives.{prg}
use Rattle.spec.specs.Leaves.{node_at, leaf_key, stretched, leaf_seed}
use Rattle.spec.specs.Rows.{row_byte, stretch_byte, u_byte}
use Rattle.spec.specs.Signer.{signer_u, correction, corrections, leaf_commitment_at, opening_of}
use Rattle.spec.specs.Calls.{written, nodes_ok, plan_lengths, plan_number, open_lengths}
use Rattle.spec.proofs.WorkedExample.{shape, whole, rows, challenge, signer-tree, signer-leaf-commitments}

-- two lists that differ at place i are not equal
apart : (xs ys : List ℕ) (i : ℕ) → T (not (eqb (get_or xs i 0) (get_or ys i 0))) → xs ≡ ys → ⊥
apart xs ys i t e =
    T_not (eqb (get_or xs i 0) (get_or ys i 0)) t (subst (λ (l : List ℕ). T (eqb (get_or xs i 0) (get_or l i 0))) e (eqb_refl (get_or xs i 0)))

-- that shape with one slot too few for that challenge, which reveals five nodes
abbrev pub tight : Shape
tight = record { tau = 3; k = 2; w = 122; t = 4; level = 128; kind = 0 }

-- ---- leaves laid vector after vector instead of interleaved

pub vector_after_vector : Shape → ℕ → ℕ → ℕ
vector_after_vector s i j = leaves s - 1 + first_entry s i + j

pub not-vector-after-vector :
    revealed (leaves shape) (tabulate 3 (λ i. vector_after_vector shape i (hidden_index shape challenge i))) ≡ planned shape challenge → ⊥
unfolding vector_after_vector tabulate zeros number parent is_ancestor_within is_ancestor some covered sibling_to_reveal revealed_from revealed bit_at bits_at index_at depth_of first_bit first_entry leaves leaf_of hidden_index hidden_leaf hidden_leaves planned deeper level
not-vector-after-vector =
    apart (revealed (leaves shape) (tabulate 3 (λ i. vector_after_vector shape i (hidden_index shape challenge i)))) (planned shape challenge) 0 tt

-- ---- nodes revealed from the root downward, or the covered child revealed

pub revealed_downward : (ℕ → Bool) → ℕ → List ℕ
revealed_downward c zero = []
revealed_downward c (suc a) = revealed_downward c a ++ sibling_to_reveal (c (2 * a + 1)) (c (2 * a + 2)) a

pub not-root-downward : revealed_downward (covered (hidden_leaves shape challenge)) 11 ≡ planned shape challenge → ⊥
unfolding revealed_downward tabulate number parent is_ancestor_within is_ancestor some covered sibling_to_reveal revealed_from revealed bit_at bits_at index_at depth_of first_bit leaves leaf_of hidden_index hidden_leaf hidden_leaves planned deeper level
not-root-downward = apart (revealed_downward (covered (hidden_leaves shape challenge)) 11) (planned shape challenge) 0 tt

pub covered_children : (ℕ → Bool) → ℕ → List ℕ
covered_children c zero = []
covered_children c (suc a) = sibling_to_reveal (c (2 * a + 2)) (c (2 * a + 1)) a ++ covered_children c a

pub not-covered-child : covered_children (covered (hidden_leaves shape challenge)) 11 ≡ planned shape challenge → ⊥
unfolding covered_children tabulate number parent is_ancestor_within is_ancestor some covered sibling_to_reveal revealed_from revealed bit_at bits_at index_at depth_of first_bit leaves leaf_of hidden_index hidden_leaf hidden_leaves planned deeper level
not-covered-child = apart (covered_children (covered (hidden_leaves shape challenge)) 11) (planned shape challenge) 0 tt

-- ---- T compared with all covered nodes instead of the revealed ones

pub covered_below : List ℕ → ℕ → ℕ
covered_below hidden zero = 0
covered_below hidden (suc a) = cond (covered hidden a) 1 0 + covered_below hidden a

pub covered_number : Shape → List ℕ → ℕ
covered_number s ch = cond (leb (covered_below (hidden_leaves s ch) (2 * leaves s - 1)) s.t) 0 5

pub not-covered-nodes : covered_number shape challenge ∷ [] ≡ plan_number shape challenge (plan_lengths shape challenge (zeros 7)) ∷ [] → ⊥
unfolding covered_below covered_number tabulate zeros all_zero number parent is_ancestor_within is_ancestor some covered sibling_to_reveal revealed_from revealed node_count bit_at bits_at index_at clear_at level challenge_bytes depth_of first_bit leaves leaf_of shape_ok hidden_index hidden_leaf hidden_leaves grinding_ok planned_count nodes_ok plan_number deeper
not-covered-nodes = apart (covered_number shape challenge ∷ []) (plan_number shape challenge (plan_lengths shape challenge (zeros 7)) ∷ []) 0 tt

-- ---- the correction of vector 0 taken as u instead of nothing

pub with_vector0 : List ℕ
with_vector0 = signer_u shape 2 (rows whole signer-tree) ++ corrections shape 2 (rows whole signer-tree)

pub not-vector-0 : with_vector0 ≡ corrections shape 2 (rows whole signer-tree) → ⊥
unfolding with_vector0 tabulate concat xor_below level node_bytes leaf_commitment_bytes depth_of entries_of leaves leaf_of prg node_at leaf_key stretched leaf_seed row_byte stretch_byte u_byte signer_u correction corrections deeper
not-vector-0 = apart with_vector0 (corrections shape 2 (rows whole signer-tree)) 1 tt

-- ---- the opening filled first and the count compared later

pub filled_first : List ℕ → List ℕ
filled_first before = take (length before) (opening_of tight challenge signer-tree signer-leaf-commitments)

pub ours : List ℕ → List ℕ
ours before =
    written (plan_number tight challenge (open_lengths tight challenge signer-tree signer-leaf-commitments before))
    (opening_of tight challenge signer-tree signer-leaf-commitments) before

pub not-filled-first : filled_first (zeros 208) ≡ ours (zeros 208) → ⊥
unfolding filled_first ours tabulate concat zeros all_zero number parent is_ancestor_within is_ancestor some covered sibling_to_reveal revealed_from revealed node_count bit_at bits_at index_at clear_at level node_bytes challenge_bytes leaf_commitment_bytes depth_of first_bit first_entry leaves leaf_of shape_ok hidden_index hidden_leaf hidden_leaves grinding_ok planned planned_count tree_bytes leaf_commitments_bytes opening_bytes node_at leaf_commitment_at opening_of nodes_ok plan_number deeper
not-filled-first = apart (filled_first (zeros 208)) (ours (zeros 208)) 0 tt
