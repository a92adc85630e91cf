-- Document 01's refusals and limits, computed: each number where its condition holds alone and where a later one holds too, the counts that go with
-- them, the borders of shapes and row lengths.
use Prim.Native.Nat.{ℕ, ◌+◌, ◌*◌, ◌/◌}
use mathlib.Core.Path.{◌≡◌, refl}
use mathlib.Core.Bool.{true, false, cond}
use mathlib.Core.List.{List, [], ◌∷◌, ◌++◌}
use lib.Dec.{eqb}
use lib.ListN.{set, replicate}
use Rattle.spec.specs.declared.Shape.{Shape}
use Rattle.spec.specs.declared.Stretch.{Stretch}
use Rattle.spec.specs.Bytes.{tabulate, zeros, all_zero, number}
use Rattle.spec.specs.Tree.{parent, is_ancestor_within, is_ancestor, some, covered, sibling_to_reveal, revealed_from, revealed, node_count}
use Rattle.spec.specs.Challenge.{bit_at, bits_at, index_at, clear_at}
use Rattle.spec.specs.Shapes.{faest128s, faest128f, resolved, level, node_bytes, challenge_bytes, leaf_commitment_bytes, hash_bytes, rate, deeper, depth_of, first_bit, leaves, leaf_of, shape_ok, hidden_index, hidden_leaf, hidden_leaves, grinding_ok, planned, planned_count, tree_bytes, leaf_commitments_bytes, opening_bytes, matrix_bytes, corrections_bytes}
use Rattle.spec.specs.Verifier.{slots_ok}
use Rattle.spec.specs.Calls.{row_ok, stretch_ok, nodes_ok, count_with, decode_lengths, decode_number, plan_lengths, plan_number, Committed, commit_lengths, commit_number, commit_stretch_number, open_lengths, Reconstructed, reconstruct_lengths, reconstruct_number, reconstruct_stretch_number}

abbrev pub shape : ℕ → ℕ → ℕ → ℕ → Shape
shape tau k w t = record { tau = tau; k = k; w = w; t = t; level = 128; kind = 0 }

-- ---- limits

abbrev pub Limits : Type 0
Limits =
    (shape_ok (shape 32 4 0 512) ≡ true)
    × (shape_ok (shape 10 12 8 512) ≡ true)
    × (shape_ok (shape 33 3 29 512) ≡ false)
    × (shape_ok (shape 9 13 11 512) ≡ false)
    × (shape_ok (shape 32 4 0 0) ≡ false)
    × (shape_ok (shape 32 4 0 513) ≡ false)
    × (shape_ok (shape 32 4 1 512) ≡ false)
    × (shape_ok (shape 16 7 8 110) ≡ true)
    × (shape_ok (shape 10 11 9 512) ≡ true)
    × (shape_ok (shape 10 11 8 512) ≡ false)
    × (shape_ok (shape 10 12 7 512) ≡ false)
    × (row_ok 8 ≡ true)
    × (row_ok 65536 ≡ true)
    × (row_ok 0 ≡ false)
    × (row_ok 12 ≡ false)
    × (row_ok 65544 ≡ false)
    × (opening_bytes faest128s ≡ 2160)

pub limits : Limits
unfolding faest128s level node_bytes leaf_commitment_bytes shape_ok opening_bytes row_ok deeper depth_of
limits = (refl, refl, refl, refl, refl, refl, refl, refl, refl, refl, refl, refl, refl, refl, refl, refl, refl)

-- ---- levels (document 02, E7)

abbrev pub at : ℕ → ℕ → ℕ → ℕ → ℕ → Shape
at level tau k w t = record { tau = tau; k = k; w = w; t = t; level = level; kind = 0 }

-- depths and w add up to the level, and there are three levels
abbrev pub Levels : Type 0
Levels =
    (shape_ok (at 192 16 12 0 512) ≡ true)
    × (shape_ok (at 192 32 2 127 1) ≡ true)
    × (shape_ok (at 192 32 4 0 512) ≡ false)
    × (shape_ok (at 192 32 2 128 1) ≡ false)
    × (shape_ok (at 256 32 4 128 1) ≡ false)
    × (shape_ok (at 192 16 12 1 512) ≡ false)
    × (shape_ok (at 192 15 12 11 512) ≡ false)
    × (shape_ok (at 256 32 8 0 512) ≡ true)
    × (shape_ok (at 256 21 12 4 512) ≡ true)
    × (shape_ok (at 256 32 4 127 1) ≡ true)
    × (shape_ok (at 256 22 12 0 512) ≡ false)
    × (shape_ok (at 128 16 12 0 512) ≡ false)
    × (shape_ok (at 0 1 1 127 1) ≡ false)
    × (shape_ok (at 127 32 3 31 512) ≡ false)
    × (shape_ok (at 160 32 5 0 512) ≡ false)
    × (shape_ok (at 384 32 12 0 512) ≡ false)

pub levels : Levels
unfolding level shape_ok deeper depth_of
levels = (refl, refl, refl, refl, refl, refl, refl, refl, refl, refl, refl, refl, refl, refl, refl, refl)

-- the other sets of document 000, section 3.1, with kind 0: allowed, their leaves, and the bytes of an opening
abbrev pub Sets : Type 0
Sets =
    let s = at 192 16 11 12 162 in
    let f = at 192 24 7 8 163 in
    let s256 = at 256 22 11 6 245 in
    let f256 = at 256 32 7 8 246 in
    ((shape_ok s ≡ true) × (leaves s ≡ 40960) × (opening_bytes s ≡ 5040))
    × ((shape_ok f ≡ true) × (leaves f ≡ 5120) × (opening_bytes f ≡ 5640))
    × ((shape_ok s256 ≡ true) × (leaves s256 ≡ 61440) × (opening_bytes s256 ≡ 9952))
    × ((shape_ok f256 ≡ true) × (leaves f256 ≡ 7168) × (opening_bytes f256 ≡ 10944))

pub sets : Sets
unfolding level node_bytes leaf_commitment_bytes shape_ok opening_bytes deeper depth_of leaves
sets = ((refl, refl, refl), (refl, refl, refl), (refl, refl, refl), (refl, refl, refl))

-- ---- kinds (document 02, E8)

abbrev pub em : ℕ → ℕ → ℕ → ℕ → ℕ → Shape
em level tau k w t = record { tau = tau; k = k; w = w; t = t; level = level; kind = 1 }

abbrev pub of_kind : ℕ → Shape
of_kind kind = record { tau = 2; k = 2; w = 124; t = 4; level = 128; kind = kind }

abbrev pub zeros_of_kind2 : Shape
zeros_of_kind2 = record { tau = 0; k = 0; w = 0; t = 0; level = 128; kind = 2 }

-- 0 and 1; four zeros are no shape with kind 1
abbrev pub Kinds : Type 0
Kinds =
    (shape_ok (of_kind 0) ≡ true)
    × (shape_ok (of_kind 1) ≡ true)
    × (shape_ok (of_kind 2) ≡ false)
    × (shape_ok (of_kind 255) ≡ false)
    × (resolved (em 128 0 0 0 0) ≡ em 128 0 0 0 0)
    × (resolved zeros_of_kind2 ≡ zeros_of_kind2)
    × (shape_ok (em 128 0 0 0 0) ≡ false)

pub kinds : Kinds
unfolding all_zero faest128f resolved level shape_ok deeper depth_of
kinds = (refl, refl, refl, refl, refl, refl, refl)

-- the sets of document 000, section 3.1, with kind 1: allowed, their leaves, and the bytes of an opening
abbrev pub EmSets : Type 0
EmSets =
    let s = em 128 11 11 7 103 in
    let f = em 128 16 7 8 112 in
    let s192 = em 192 16 11 8 162 in
    let f192 = em 192 24 7 8 176 in
    let s256 = em 256 22 11 6 218 in
    let f256 = em 256 32 7 8 234 in
    ((shape_ok s ≡ true) × (leaves s ≡ 22528) × (opening_bytes s ≡ 2000))
    × ((shape_ok f ≡ true) × (leaves f ≡ 3072) × (opening_bytes f ≡ 2304))
    × ((shape_ok s192 ≡ true) × (leaves s192 ≡ 49152) × (opening_bytes s192 ≡ 4656))
    × ((shape_ok f192 ≡ true) × (leaves f192 ≡ 5120) × (opening_bytes f192 ≡ 5376))
    × ((shape_ok s256 ≡ true) × (leaves s256 ≡ 61440) × (opening_bytes s256 ≡ 8384))
    × ((shape_ok f256 ≡ true) × (leaves f256 ≡ 7168) × (opening_bytes f256 ≡ 9536))

pub em-sets : EmSets
unfolding level node_bytes leaf_commitment_bytes shape_ok opening_bytes deeper depth_of leaves
em-sets = ((refl, refl, refl), (refl, refl, refl), (refl, refl, refl), (refl, refl, refl), (refl, refl, refl), (refl, refl, refl))

-- bytes of a node, a challenge, a leaf commitment, a commitment, and of Q for rows of one byte
abbrev pub WidthsAt : ℕ → ℕ → ℕ → ℕ → ℕ → Shape → Type 0
WidthsAt node leaf hash columns blocks s =
    (node_bytes s ≡ node) × (challenge_bytes s ≡ node) × (leaf_commitment_bytes s ≡ leaf) × (hash_bytes s ≡ hash) × (matrix_bytes s 1 ≡ columns) × (rate s ≡ blocks)

pub level-widths :
    WidthsAt 16 48 32 128 168 (at 128 32 4 0 1) × WidthsAt 24 72 48 192 136 (at 192 32 6 0 1) × WidthsAt 32 96 64 256 136 (at 256 32 8 0 1)
    × WidthsAt 16 32 32 128 168 (em 128 32 4 0 1) × WidthsAt 24 48 48 192 136 (em 192 32 6 0 1) × WidthsAt 32 64 64 256 136 (em 256 32 8 0 1)
unfolding level node_bytes challenge_bytes leaf_commitment_bytes hash_bytes matrix_bytes rate
level-widths = (
  (refl, refl, refl, refl, refl, refl),
  (refl, refl, refl, refl, refl, refl),
  (refl, refl, refl, refl, refl, refl),
  (refl, refl, refl, refl, refl, refl),
  (refl, refl, refl, refl, refl, refl),
  (refl, refl, refl, refl, refl, refl),
)

-- four zeros are the default, at level 128; three are not, wherever the fourth number stands
abbrev pub Defaults : Type 0
Defaults =
    (resolved (shape 0 0 0 0) ≡ shape 16 7 8 110)
    × (resolved (shape 11 0 0 0) ≡ shape 11 0 0 0)
    × (resolved (shape 0 11 0 0) ≡ shape 0 11 0 0)
    × (resolved (shape 0 0 7 0) ≡ shape 0 0 7 0)
    × (resolved (shape 0 0 0 102) ≡ shape 0 0 0 102)
    × (shape_ok (shape 0 0 0 102) ≡ false)
    × (resolved (at 192 0 0 0 0) ≡ at 192 0 0 0 0)
    × (resolved (at 0 0 0 0 0) ≡ at 0 0 0 0 0)
    × (shape_ok (at 192 0 0 0 0) ≡ false)
    × (shape_ok (at 256 0 0 0 0) ≡ false)
    × (shape_ok (at 0 0 0 0 0) ≡ false)

pub defaults : Defaults
unfolding all_zero faest128f resolved shape_ok deeper level depth_of
defaults = (refl, refl, refl, refl, refl, refl, refl, refl, refl, refl, refl)

-- ---- grinding bits

-- a challenge of zeros but for byte i
abbrev pub only : ℕ → ℕ → List ℕ
only i x = set (zeros 16) i x

-- with w 127 each bit from bit 1 on is one, seen here by the least and the greatest bit of each byte; with FAEST-128s the upper seven of byte 15 are
abbrev pub Grinding : Type 0
Grinding =
    (tabulate 16 (λ i. grinding_ok (shape 1 1 127 1) (only i 1)) ≡ true ∷ replicate 15 false)
    × (tabulate 16 (λ i. grinding_ok (shape 1 1 127 1) (only i 128)) ≡ replicate 16 false)
    × (grinding_ok (shape 1 1 127 1) (only 0 2) ≡ false)
    × (tabulate 15 (λ i. grinding_ok faest128s (only i 255)) ≡ replicate 15 true)
    × (grinding_ok faest128s (only 15 1) ≡ true)
    × (grinding_ok faest128s (only 15 2) ≡ false)
    × (grinding_ok faest128s (only 15 128) ≡ false)

pub grinding : Grinding
unfolding tabulate zeros all_zero bit_at bits_at clear_at faest128s first_bit grinding_ok deeper level
grinding = (refl, refl, refl, refl, refl, refl, refl)

-- ---- the calls at τ 1, k 1, w 127, T 1 or, for 5, at P8's shape; a challenge is its first byte and fifteen zeros

abbrev pub small : Shape
small = shape 1 1 127 1

abbrev pub ch : ℕ → List ℕ
ch first = first ∷ zeros 15

-- decode with a list of n numbers
abbrev pub decoding : Shape → ℕ → ℕ → ℕ
decoding s first n = decode_number s (ch first) (decode_lengths s (ch first) (zeros n))

-- plan with a list of n numbers
abbrev pub planning : Shape → ℕ → ℕ → ℕ
planning s first n = plan_number s (ch first) (plan_lengths s (ch first) (zeros n))

-- commit's buffers for `small` and rows or stretches of a byte, u being of `long` bytes
abbrev pub signer_buffers : ℕ → Committed
signer_buffers long = record { commitment = zeros 32; tree = zeros 48; leaf_commitments = zeros 96; u = zeros long; v = zeros 128; corrections = [] }

-- commit with rows of n bits
abbrev pub committing : Shape → ℕ → ℕ → ℕ
committing s n long = commit_number s n (commit_lengths s (n / 8) (zeros 16) (zeros 16) (signer_buffers long))

abbrev pub stretch : ℕ → ℕ → Stretch
stretch first width = record { first = first; width = width }

-- commit with rows of n bits, of the stretch
abbrev pub committing_stretch : Shape → ℕ → ℕ → ℕ → ℕ → ℕ
committing_stretch s n first width long =
    commit_stretch_number s n (stretch first width) (commit_lengths s width (zeros 16) (zeros 16) (signer_buffers long))

-- open with an opening of `long` bytes
abbrev pub opening : Shape → ℕ → ℕ → ℕ
opening s first long = plan_number s (ch first) (open_lengths s (ch first) (zeros 48) (zeros 96) (zeros long))

-- reconstruct's buffers for `small` and rows or stretches of a byte
abbrev pub verifier_buffers : Reconstructed
verifier_buffers = record { commitment = zeros 32; tree = zeros 48; leaf_commitments = zeros 96; q = zeros 128 }

-- reconstruct of all that it is lent, with rows of n bits
abbrev pub reconstruct_number_of : Shape → ℕ → List ℕ → List ℕ → List ℕ → List ℕ → Reconstructed → ℕ
reconstruct_number_of s n iv ch corrections opening x = reconstruct_number s n ch opening (reconstruct_lengths s (n / 8) iv ch corrections opening x)

-- reconstruct with an opening whose last byte is `last`
abbrev pub reconstructing : Shape → ℕ → ℕ → ℕ → ℕ
reconstructing s n first last = reconstruct_number_of s n (zeros 16) (ch first) [] (zeros 63 ++ (last ∷ [])) verifier_buffers

-- the same of a stretch
abbrev pub reconstructing_stretch : Shape → ℕ → ℕ → ℕ → ℕ → ℕ → ℕ
reconstructing_stretch s n from width first last =
    let opening = zeros 63 ++ (last ∷ []) in
    reconstruct_stretch_number s n (stretch from width) (ch first) opening (reconstruct_lengths s width (zeros 16) (ch first) [] opening verifier_buffers)

-- the same at 2, 2, 124, 5 and the challenge 0c, which reveals four nodes: the opening is zeros but for byte i
abbrev pub reconstructing_at : ℕ → ℕ
reconstructing_at i =
    reconstruct_number_of (shape 2 2 124 5) 8 (zeros 16) (ch 12) (zeros 1) (set (zeros 176) i 1)
    (record { commitment = zeros 32; tree = zeros 240; leaf_commitments = zeros 384; q = zeros 128 })

-- at 2, 2, 124, t: with t 5 the challenge 0c leaves one slot unused, with t 3 it needs a node too many
abbrev pub reconstructing2 : ℕ → ℕ → ℕ → ℕ
reconstructing2 t first last =
    reconstruct_number_of (shape 2 2 124 t) 8 (zeros 16) (ch first) (zeros 1) (zeros (95 + 16 * t) ++ (last ∷ []))
    (record { commitment = zeros 32; tree = zeros 240; leaf_commitments = zeros 384; q = zeros 128 })

abbrev pub Numbers : Type 0
Numbers =
    (decoding small 0 1 ≡ 0)
    × (decoding (shape 1 1 126 1) 2 2 ≡ 1)
    × (decoding small 2 2 ≡ 3)
    × (decoding small 2 1 ≡ 4)
    × (planning small 0 1 ≡ 0)
    × (planning (shape 1 1 126 1) 2 2 ≡ 1)
    × (planning small 2 2 ≡ 3)
    × (planning small 0 0 ≡ 3)
    × (planning small 2 1 ≡ 4)
    × (committing small 8 1 ≡ 0)
    × (committing (shape 1 1 126 1) 12 2 ≡ 1)
    × (committing small 12 2 ≡ 2)
    × (committing small 8 2 ≡ 3)
    × (opening small 0 64 ≡ 0)
    × (opening (shape 1 1 126 1) 2 65 ≡ 1)
    × (opening small 2 65 ≡ 3)
    × (opening small 2 64 ≡ 4)
    × (reconstructing small 8 0 0 ≡ 0)
    × (reconstructing (shape 1 1 126 1) 12 2 1 ≡ 1)
    × (reconstructing small 12 2 1 ≡ 2)
    × (reconstructing small 16 2 1 ≡ 3)
    × (reconstructing small 8 2 1 ≡ 4)
    × (reconstructing2 5 12 0 ≡ 0)
    × (reconstructing2 3 28 1 ≡ 4)
    × (reconstructing2 3 12 1 ≡ 5)
    × (reconstructing2 5 12 1 ≡ 6)
    × (reconstructing_at 95 ≡ 0)
    × (reconstructing_at 159 ≡ 0)
    × (reconstructing_at 160 ≡ 6)

pub numbers : Numbers
unfolding tabulate zeros all_zero number parent is_ancestor_within is_ancestor some covered sibling_to_reveal revealed_from revealed node_count bit_at bits_at index_at clear_at level node_bytes challenge_bytes leaf_commitment_bytes hash_bytes depth_of first_bit leaves leaf_of shape_ok hidden_index hidden_leaf hidden_leaves grinding_ok planned planned_count tree_bytes leaf_commitments_bytes opening_bytes matrix_bytes corrections_bytes slots_ok row_ok nodes_ok decode_number plan_number commit_number reconstruct_number deeper
numbers =
    (refl, refl, refl, refl, refl, refl, refl, refl, refl, refl, refl, refl, refl, refl, refl, refl, refl, refl, refl, refl, refl, refl, refl, refl, refl, refl, refl, refl, refl)

-- ---- stretches

-- within a row of two bytes; of no bytes, and past the end by one
abbrev pub Stretches : Type 0
Stretches =
    (stretch_ok 2 (stretch 0 2) ≡ true)
    × (stretch_ok 2 (stretch 1 1) ≡ true)
    × (stretch_ok 2 (stretch 0 0) ≡ false)
    × (stretch_ok 2 (stretch 2 0) ≡ false)
    × (stretch_ok 2 (stretch 1 2) ≡ false)
    × (stretch_ok 2 (stretch 2 1) ≡ false)
    × (stretch_ok 2 (stretch 18446744073709551615 1) ≡ false)
    × (stretch_ok 2 (stretch 1 18446744073709551615) ≡ false)

pub stretches : Stretches
unfolding stretch_ok
stretches = (refl, refl, refl, refl, refl, refl, refl, refl)

-- 8 is tested after 2 and before 3
abbrev pub StretchNumbers : Type 0
StretchNumbers =
    (committing_stretch small 16 1 1 1 ≡ 0)
    × (committing_stretch (shape 1 1 126 1) 12 1 0 2 ≡ 1)
    × (committing_stretch small 12 1 0 2 ≡ 2)
    × (committing_stretch small 16 1 0 2 ≡ 8)
    × (committing_stretch small 16 1 2 1 ≡ 8)
    × (committing_stretch small 16 1 1 2 ≡ 3)
    × (reconstructing_stretch small 16 1 1 0 0 ≡ 0)
    × (reconstructing_stretch (shape 1 1 126 1) 12 1 0 2 1 ≡ 1)
    × (reconstructing_stretch small 12 1 0 2 1 ≡ 2)
    × (reconstructing_stretch small 16 2 1 2 1 ≡ 8)
    × (reconstructing_stretch small 24 1 2 2 1 ≡ 3)
    × (reconstructing_stretch small 16 1 1 2 1 ≡ 4)

pub stretch-numbers : StretchNumbers
unfolding tabulate zeros all_zero number parent is_ancestor_within is_ancestor some covered sibling_to_reveal revealed_from revealed node_count bit_at bits_at index_at clear_at level node_bytes challenge_bytes leaf_commitment_bytes hash_bytes depth_of first_bit leaves leaf_of shape_ok hidden_index hidden_leaf hidden_leaves grinding_ok planned planned_count tree_bytes leaf_commitments_bytes opening_bytes matrix_bytes corrections_bytes slots_ok row_ok nodes_ok decode_number plan_number commit_number reconstruct_number deeper stretch_ok commit_stretch_number reconstruct_stretch_number
stretch-numbers = (refl, refl, refl, refl, refl, refl, refl, refl, refl, refl, refl, refl)

-- ---- lengths: of the buffers of a call, in its order, buffer i alone is a byte longer, or none where i is past the last; at `small` with 8 bits

abbrev pub more : ℕ → ℕ → ℕ
more i buffer = cond (eqb i buffer) 1 0

abbrev pub Lengths : Type 0
Lengths =
    (tabulate 3 (λ i. decode_number small (zeros 16) (decode_lengths small (zeros (16 + more i 0)) (zeros (1 + more i 1)))) ≡ 3 ∷ 3 ∷ 0 ∷ [])
    × (tabulate 3 (λ i. plan_number small (zeros 16) (plan_lengths small (zeros (16 + more i 0)) (zeros (1 + more i 1)))) ≡ 3 ∷ 3 ∷ 0 ∷ [])
    × (tabulate 9 (λ i.
    commit_number small 8
    (commit_lengths small 1 (zeros (16 + more i 0)) (zeros (16 + more i 1))
    (record {
      commitment = zeros (32 + more i 2);
      tree = zeros (48 + more i 3);
      leaf_commitments = zeros (96 + more i 4);
      u = zeros (1 + more i 5);
      v = zeros (128 + more i 6);
      corrections = zeros (more i 7);
    })))
    ≡ replicate 8 3 ++ (0 ∷ []))
    × (tabulate 5 (λ i. plan_number small (zeros 16) (open_lengths small (zeros (16 + more i 0)) (zeros (48 + more i 1)) (zeros (96 + more i 2)) (zeros (64 + more i 3))))
    ≡ replicate 4 3 ++ (0 ∷ []))
    × (tabulate 9 (λ i.
    reconstruct_number_of small 8 (zeros (16 + more i 0)) (zeros (16 + more i 1)) (zeros (more i 2)) (zeros (64 + more i 3))
    (record { commitment = zeros (32 + more i 4); tree = zeros (48 + more i 5); leaf_commitments = zeros (96 + more i 6); q = zeros (128 + more i 7) }))
    ≡ replicate 8 3 ++ (0 ∷ []))

pub lengths : Lengths
unfolding tabulate zeros all_zero number parent is_ancestor_within is_ancestor some covered sibling_to_reveal revealed_from revealed node_count bit_at bits_at index_at clear_at level node_bytes challenge_bytes leaf_commitment_bytes hash_bytes depth_of first_bit leaves leaf_of shape_ok hidden_index hidden_leaf hidden_leaves grinding_ok planned planned_count tree_bytes leaf_commitments_bytes opening_bytes matrix_bytes corrections_bytes slots_ok row_ok nodes_ok decode_number plan_number commit_number reconstruct_number deeper
lengths = (refl, refl, refl, refl, refl)

-- the count with each number, where 7 nodes are planned
abbrev pub Counts : Type 0
Counts =
    (count_with 0 7 ≡ 7) × (count_with 1 7 ≡ 0) × (count_with 2 7 ≡ 0) × (count_with 3 7 ≡ 0) × (count_with 4 7 ≡ 0) × (count_with 5 7 ≡ 7) × (count_with 6 7 ≡ 7) × (count_with 8 7 ≡ 0)

pub counts : Counts
unfolding count_with
counts = (refl, refl, refl, refl, refl, refl, refl, refl)
