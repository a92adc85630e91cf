-- Document 01, "The shape and the tree", and document 02, E2, E7 and E8: shapes, the numbers and widths that a shape gives, and what it makes of a challenge. Behind `resolved`,
-- s is a resolved shape. What a level changes of FAEST's definitions stands in this file: all others use its names.
use Rattle.std.specs.Prelude.{ℕ, ◌+◌, ◌-◌, ◌*◌, ◌/◌, ◌^◌, min, Bool, ◌&&◌, ◌||◌, cond, List, [], ◌∷◌, leb, ltb, eqb}
use Rattle.spec.specs.declared.Shape.{Shape}
use Rattle.spec.specs.Bytes.{tabulate, all_zero}
use Rattle.spec.specs.Challenge.{index_at, clear_at}
use Rattle.spec.specs.Tree.{revealed, node_count}

-- FAEST-128s and FAEST-128f (document 000, tables 3.2 and 5.1; what is called k there is k + 1 here)
unfoldable pub faest128s : Shape
faest128s = record { tau = 11; k = 11; w = 7; t = 102; level = 128; kind = 0 }

unfoldable pub faest128f : Shape
faest128f = record { tau = 16; k = 7; w = 8; t = 110; level = 128; kind = 0 }

-- document 02, E8: the leaf kind, 0 ordinary, 1 Even-Mansour
abbrev pub ordinary : Shape → Bool
ordinary s = eqb s.kind 0

-- four zeros stand for the default, FAEST-128f (document 02, E3), at level 128 (E7) and with ordinary leaves (E8) only
unfoldable pub resolved : Shape → Shape
resolved s = cond (all_zero (s.tau ∷ s.k ∷ s.w ∷ s.t ∷ []) && eqb s.level 128 && ordinary s) faest128f s

-- ---- widths

-- the security level in bits: document 000's lambda
unfoldable pub level : Shape → ℕ
level s = s.level

-- bytes of a node, a seed and a generator key
unfoldable pub node_bytes : Shape → ℕ
node_bytes s = level s / 8

unfoldable pub challenge_bytes : Shape → ℕ
challenge_bytes s = level s / 8

-- bytes of a leaf commitment: document 000, table 5.1, n_leafcom blocks of lambda bits. A hash key, which ordinary leaves have, is as long
unfoldable pub leaf_commitment_bytes : Shape → ℕ
leaf_commitment_bytes s = cond (ordinary s) 3 2 * node_bytes s

-- bytes of H1 and of the commitment
unfoldable pub hash_bytes : Shape → ℕ
hash_bytes s = 2 * node_bytes s

-- bytes of the IV, at every level
abbrev pub iv_bytes : ℕ
iv_bytes = 16

-- the words of an AES key, the rate of SHAKE in bytes, and the field of 2^(3 lambda) elements: its width and polynomial
unfoldable pub key_words : Shape → ℕ
key_words s = level s / 32

-- SHAKE128 at level 128, SHAKE256 at the others (section 3.3)
unfoldable pub rate : Shape → ℕ
rate s = cond (eqb (level s) 128) 168 136

unfoldable pub field_width : Shape → ℕ
field_width s = 3 * level s

-- document 000, section 3.2: P384, P576, P768
unfoldable pub field_polynomial : Shape → ℕ
field_polynomial s =
    cond (eqb (level s) 128) (2 ^ 384 + 2 ^ 12 + 2 ^ 3 + 2 ^ 2 + 1)
    (cond (eqb (level s) 192) (2 ^ 576 + 2 ^ 13 + 2 ^ 4 + 2 ^ 3 + 1) (2 ^ 768 + 2 ^ 19 + 2 ^ 17 + 2 ^ 4 + 1))

-- ---- vectors: the first r have depth k + 1, the others depth k

-- r, the number of the deeper vectors: document 000's tau_1
unfoldable pub deeper : Shape → ℕ
deeper s = level s - s.w - s.tau * s.k

unfoldable pub depth_of : Shape → ℕ → ℕ
depth_of s i = cond (ltb i (deeper s)) (s.k + 1) s.k

-- the entries of vector i: document 000's N_i
unfoldable pub entries_of : Shape → ℕ → ℕ
entries_of s i = 2 ^ depth_of s i

-- the first challenge bit of vector i, which is also the number of its first column
unfoldable pub first_bit : Shape → ℕ → ℕ
first_bit s i = i * s.k + min i (deeper s)

-- how many entries the vectors before vector i have: the place of its first leaf commitment
unfoldable pub first_entry : Shape → ℕ → ℕ
first_entry s i = (i + min i (deeper s)) * 2 ^ s.k

-- L, the number of leaves
unfoldable pub leaves : Shape → ℕ
leaves s = (s.tau + deeper s) * 2 ^ s.k

-- BAVC.PosInTree, section 5.1, as documents 01 and 02 number the leaves: the node of entry j of vector i. The entries below 2^k of all vectors are interleaved;
-- behind them are the others, of the deeper vectors.
unfoldable pub leaf_of : Shape → ℕ → ℕ → ℕ
leaf_of s i j = leaves s - 1 + cond (ltb j (2 ^ s.k)) (s.tau * j) (s.tau * 2 ^ s.k + deeper s * (j - 2 ^ s.k)) + i

-- ---- the shape rules, refusal 1

abbrev pub level_ok : ℕ → Bool
level_ok n = eqb n 128 || (eqb n 192 || eqb n 256)

-- k + 1 counts where a vector has that depth; vector 0 is as deep as any
unfoldable pub shape_ok : Shape → Bool
shape_ok s =
    leb 1 s.tau && leb s.tau 32 && leb 1 s.k && leb (depth_of s 0) 12 && leb s.w 127 && leb 1 s.t && leb s.t 512
    && leb (s.tau * s.k + s.w) (level s) && ltb (deeper s) s.tau && level_ok s.level && leb s.kind 1

-- ---- what a challenge hides

-- DecodeAllChall3, figure 5.7: Delta_i
unfoldable pub hidden_index : Shape → List ℕ → ℕ → ℕ
hidden_index s ch i = index_at ch (first_bit s i) (depth_of s i)

unfoldable pub hidden_indices : Shape → List ℕ → List ℕ
hidden_indices s ch = tabulate s.tau (hidden_index s ch)

unfoldable pub hidden_leaf : Shape → List ℕ → ℕ → ℕ
hidden_leaf s ch i = leaf_of s i (hidden_index s ch i)

unfoldable pub hidden_leaves : Shape → List ℕ → List ℕ
hidden_leaves s ch = tabulate s.tau (hidden_leaf s ch)

-- the grinding bits, the last w, are 0
unfoldable pub grinding_ok : Shape → List ℕ → Bool
grinding_ok s ch = clear_at ch (first_bit s s.tau) s.w

-- the nodes of the opening in revealing order, and how many they are
unfoldable pub planned : Shape → List ℕ → List ℕ
planned s ch = revealed (leaves s) (hidden_leaves s ch)

unfoldable pub planned_count : Shape → List ℕ → ℕ
planned_count s ch = node_count (leaves s) (hidden_leaves s ch)

-- ---- lengths of buffers in bytes; b is the length of a row

unfoldable pub tree_bytes : Shape → ℕ
tree_bytes s = node_bytes s * (2 * leaves s - 1)

unfoldable pub leaf_commitments_bytes : Shape → ℕ
leaf_commitments_bytes s = leaf_commitment_bytes s * leaves s

unfoldable pub opening_bytes : Shape → ℕ
opening_bytes s = leaf_commitment_bytes s * s.tau + node_bytes s * s.t

unfoldable pub matrix_bytes : Shape → ℕ → ℕ
matrix_bytes s b = b * level s

unfoldable pub corrections_bytes : Shape → ℕ → ℕ
corrections_bytes s b = b * (s.tau - 1)
