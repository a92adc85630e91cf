-- Document 01's examples P1 to P10, how far one index moved a count, and the default, as entries of one table about the definitions; behind it hidden indices and shapes of two depths. Each
-- is computed.
use Prim.Native.Nat.{ℕ}
use mathlib.Core.Path.{◌≡◌, refl}
use mathlib.Core.List.{List, [], ◌∷◌, ◌++◌}
use lib.ListN.{drop}
use Rattle.spec.specs.declared.Shape.{Shape}
use Rattle.spec.specs.Bytes.{tabulate, zeros, all_zero, number}
use Rattle.spec.specs.Tree.{parent, is_ancestor_within, is_ancestor, some, covered, sibling_to_reveal, revealed_from, revealed, node_count}
use Rattle.spec.specs.Challenge.{bit_at, bits_at, index_at, clear_at}
use Rattle.spec.specs.Shapes.{faest128s, faest128f, resolved, level, challenge_bytes, deeper, depth_of, first_bit, first_entry, leaves, leaf_of, shape_ok, hidden_index, hidden_indices, hidden_leaf, hidden_leaves, grinding_ok, planned, planned_count}
use Rattle.spec.specs.Calls.{written, count_with, nodes_ok, plan_lengths, plan_number}

-- a call of plan with a challenge of one byte and fifteen zeros and a list of t zeros: its number, its count and the list after it
pub record Row : Type 0 where
  pub shape : Shape
  pub first : ℕ
  pub number : ℕ
  pub count : ℕ
  pub nodes : List ℕ

pub challenge_of : Row → List ℕ
challenge_of r = r.first ∷ zeros 15

pub Planned : Row → Type 0
Planned r =
    let s = resolved r.shape in
    let ch = challenge_of r in
    let n = plan_number s ch (plan_lengths s ch (zeros s.t)) in
    (n ≡ r.number)
    × (count_with n (planned_count s ch) ≡ r.count)
    × (written n (planned s ch ++ drop (planned_count s ch) (zeros s.t)) (zeros s.t) ≡ r.nodes)

pub row : ℕ → ℕ → ℕ → ℕ → ℕ → ℕ → ℕ → List ℕ → Row
row tau k w t first number count nodes =
    record { shape = record { tau = tau; k = k; w = w; t = t; level = 128; kind = 0 }; first = first; number = number; count = count; nodes = nodes }

abbrev pub P1 : Type 0
P1 = Planned (row 1 1 127 1 0x00 0 1 (2 ∷ []))

abbrev pub P2 : Type 0
P2 = Planned (row 1 1 127 1 0x01 0 1 (1 ∷ []))

abbrev pub P3 : Type 0
P3 = Planned (row 2 2 124 4 0x00 0 2 (4 ∷ 2 ∷ 0 ∷ 0 ∷ []))

abbrev pub P4 : Type 0
P4 = Planned (row 2 2 124 4 0x0c 0 4 (13 ∷ 8 ∷ 5 ∷ 4 ∷ []))

abbrev pub P5 : Type 0
P5 = Planned (row 2 2 124 4 0x01 0 3 (10 ∷ 7 ∷ 2 ∷ 0 ∷ []))

abbrev pub P6 : Type 0
P6 = Planned (row 3 1 125 2 0x00 0 2 (8 ∷ 4 ∷ []))

abbrev pub P7 : Type 0
P7 = Planned (row 3 1 125 2 0x07 0 2 (7 ∷ 2 ∷ []))

abbrev pub P8 : Type 0
P8 = Planned (row 2 2 124 3 0x0c 5 4 (0 ∷ 0 ∷ 0 ∷ []))

abbrev pub P9 : Type 0
P9 = Planned (row 2 2 124 4 0x10 4 0 (0 ∷ 0 ∷ 0 ∷ 0 ∷ []))

-- FAEST-128s: its L, and its last leaf, entry 2,047 of vector 10
abbrev pub P10 : Type 0
P10 =
    let s : Shape = record { tau = 11; k = 11; w = 7; t = 102; level = 128; kind = 0 } in
    (faest128s ≡ s) × (leaves s ≡ 22528) × (leaf_of s 10 2047 ≡ 45054)

-- P3 and P4 differ in the hidden index of vector 1 only: with L 8, the counts 2 and 4
abbrev pub OneIndex : Type 0
OneIndex =
    let s : Shape = record { tau = 2; k = 2; w = 124; t = 4; level = 128; kind = 0 } in
    (leaves s ≡ 8)
    × (hidden_index s (0x00 ∷ zeros 15) 0 ≡ 0) × (hidden_index s (0x00 ∷ zeros 15) 1 ≡ 0)
    × (hidden_index s (0x0c ∷ zeros 15) 0 ≡ 0) × (hidden_index s (0x0c ∷ zeros 15) 1 ≡ 3)
    × (planned_count s (0x00 ∷ zeros 15) ≡ 2)
    × (planned_count s (0x0c ∷ zeros 15) ≡ 4)

-- what four zeros stand for
abbrev pub Default : Type 0
Default = resolved (record { tau = 0; k = 0; w = 0; t = 0; level = 128; kind = 0 }) ≡ record { tau = 16; k = 7; w = 8; t = 110; level = 128; kind = 0 }

pub table : P1 × P2 × P3 × P4 × P5 × P6 × P7 × P8 × P9 × P10 × OneIndex × Default
unfolding challenge_of Planned row tabulate zeros all_zero number parent is_ancestor_within is_ancestor some covered sibling_to_reveal revealed_from revealed node_count bit_at bits_at index_at clear_at faest128s faest128f resolved level challenge_bytes depth_of first_bit first_entry leaves leaf_of shape_ok hidden_index hidden_leaf hidden_leaves grinding_ok planned planned_count count_with nodes_ok plan_number deeper
table = (
  (refl, refl, refl),
  (refl, refl, refl),
  (refl, refl, refl),
  (refl, refl, refl),
  (refl, refl, refl),
  (refl, refl, refl),
  (refl, refl, refl),
  (refl, refl, refl),
  (refl, refl, refl),
  (refl, refl, refl),
  (refl, refl, refl, refl, refl, refl, refl),
  refl,
)

-- ---- the hidden indices of FAEST-128s, most of which begin and end inside a byte; reference/tests derives them too

abbrev pub varied : List ℕ
varied = 8 ∷ 118 ∷ 246 ∷ 103 ∷ 12 ∷ 60 ∷ 245 ∷ 175 ∷ 148 ∷ 147 ∷ 233 ∷ 0 ∷ 222 ∷ 58 ∷ 213 ∷ 1 ∷ []

pub faest128s-indices :
    hidden_indices faest128s varied
    ≡ 1544 ∷ 1742 ∷ 415 ∷ 1542 ∷ 1875 ∷ 351 ∷ 1253 ∷ 1868 ∷ 1536 ∷ 1883 ∷ 1876 ∷ []
unfolding tabulate number bit_at bits_at index_at faest128s depth_of first_bit hidden_index hidden_indices deeper level
faest128s-indices = refl

-- ---- two depths: at 2, 1, 125, 4 vector 0 has depth 2 and vector 1 depth 1; the fast set's last leaf is the last entry of its last deeper vector

abbrev pub Uneven : Type 0
Uneven =
    Planned (row 2 1 125 4 0x00 0 1 (1 ∷ 0 ∷ 0 ∷ 0 ∷ []))
    × Planned (row 2 1 125 4 0x07 0 3 (9 ∷ 7 ∷ 2 ∷ 0 ∷ []))
    × Planned (row 2 1 125 4 0x02 0 3 (10 ∷ 5 ∷ 3 ∷ 0 ∷ []))
    × Planned (row 2 1 125 2 0x02 5 3 (0 ∷ 0 ∷ []))
    × Planned (row 2 1 125 4 0x08 4 0 (0 ∷ 0 ∷ 0 ∷ 0 ∷ []))
    × (let s : Shape = record { tau = 16; k = 7; w = 8; t = 110; level = 128; kind = 0 } in (leaves s ≡ 3072) × (leaf_of s 15 127 ≡ 5118) × (leaf_of s 7 255 ≡ 6142))

pub uneven : Uneven
unfolding challenge_of Planned row tabulate zeros all_zero number parent is_ancestor_within is_ancestor some covered sibling_to_reveal revealed_from revealed node_count bit_at bits_at index_at clear_at faest128s faest128f resolved level challenge_bytes deeper depth_of first_bit leaves leaf_of shape_ok hidden_index hidden_leaf hidden_leaves grinding_ok planned planned_count count_with nodes_ok plan_number
uneven = ((refl, refl, refl), (refl, refl, refl), (refl, refl, refl), (refl, refl, refl), (refl, refl, refl), (refl, refl, refl))
