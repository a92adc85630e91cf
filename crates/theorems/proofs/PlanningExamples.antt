-- Document 01's P3 and P4 as examples: which leaves P4's nodes reveal, computed leaf by leaf; and how far the counts of the two lie apart, which is as far as E11 allows.
use Prim.Native.Nat.{ℕ, suc, ◌+◌, ◌-◌, ◌^◌, ◌≤◌, ◌<◌}
use mathlib.Core.Path.{◌≡◌, refl, sym, subst}
use mathlib.Core.Bool.{true≢false}
use mathlib.Core.List.{List, [], ◌∷◌}
use native.Mathlib.Omega.{arith}
use native.Mathlib.Decide.{dec_lt}
use lib.Pow.{pow_mono}
use Rattle.spec.specs.declared.Shape.{Shape}
use Rattle.spec.specs.Bytes.{tabulate, zeros, number}
use Rattle.spec.specs.Tree.{parent, is_ancestor_within, is_ancestor, some, covered, sibling_to_reveal, revealed_from, revealed}
use Rattle.spec.specs.Challenge.{bit_at, bits_at, index_at}
use Rattle.spec.specs.Shapes.{faest128s, level, deeper, depth_of, first_bit, leaves, leaf_of, hidden_index, hidden_leaf, hidden_leaves, planned, planned_count}
use Rattle.spec.proofs.Examples.{OneIndex, table}
use Rattle.theorems.specs.Planning.{RevealedAt, LeastPower}

-- ---- E9: shape 2, 2, 124, 4 and challenge 0c hide leaves 7 and 14 of the eight

abbrev pub shape4 : Shape
shape4 = record { tau = 2; k = 2; w = 124; t = 4; level = 128; kind = 0 }

abbrev pub challenge4 : List ℕ
challenge4 = 0x0c ∷ zeros 15

pub planned-4 : (hidden_leaves shape4 challenge4 ≡ 7 ∷ 14 ∷ []) × (planned shape4 challenge4 ≡ 13 ∷ 8 ∷ 5 ∷ 4 ∷ [])
unfolding tabulate zeros number parent is_ancestor_within is_ancestor some covered sibling_to_reveal revealed_from revealed bit_at bits_at index_at depth_of first_bit leaves leaf_of hidden_index hidden_leaf hidden_leaves planned deeper level
planned-4 = (refl, refl)

-- which leaves these nodes reveal
abbrev pub At : List ℕ → ℕ → Type 0
At nodes y = RevealedAt (7 ∷ 14 ∷ []) nodes y

abbrev pub AtEach : List ℕ → Type 0
AtEach nodes = At nodes 7 × At nodes 8 × At nodes 9 × At nodes 10 × At nodes 11 × At nodes 12 × At nodes 13 × At nodes 14

-- the four planned nodes, and the six leaves themselves
pub planned-reveal : AtEach (13 ∷ 8 ∷ 5 ∷ 4 ∷ [])
unfolding parent is_ancestor_within is_ancestor some
planned-reveal = (refl, refl, refl, refl, refl, refl, refl, refl)

pub leaves-reveal : AtEach (8 ∷ 9 ∷ 10 ∷ 11 ∷ 12 ∷ 13 ∷ [])
unfolding parent is_ancestor_within is_ancestor some
leaves-reveal = (refl, refl, refl, refl, refl, refl, refl, refl)

-- without node 13 leaf 13 is missing; node 2 has the hidden leaf 14 beneath it
pub one-missing : At (8 ∷ 5 ∷ 4 ∷ []) 13 → ⊥
unfolding parent is_ancestor_within is_ancestor some
one-missing r = true≢false (sym r)

pub one-hidden : At (8 ∷ 4 ∷ 2 ∷ []) 14 → ⊥
unfolding parent is_ancestor_within is_ancestor some
one-hidden r = true≢false r

-- ---- E11: challenges 00 and 0c differ in the hidden index of vector 1 only (`OneIndex`, an entry of spec's table)

abbrev pub challenge3 : List ℕ
challenge3 = 0x00 ∷ zeros 15

power-between : (L d : ℕ) → 2 ^ d < L → L ≤ 2 ^ suc d → LeastPower L (suc d)
power-between L d low high = record { reaches = high; least = λ e h. go e h (dec_lt d e) }
  where
    go : (e : ℕ) → L ≤ 2 ^ e → Dec (d < e) → suc d ≤ e
    go e h (yes l) = l
    go e h (no l) = absurd (let m : 2 ^ e ≤ 2 ^ d = pow_mono (let z : e ≤ d = omega arith in z) in omega arith)

-- D is 3, and the counts are D - 1 apart: the bound is reached
pub sharp : LeastPower (leaves shape4) 3 × (planned_count shape4 challenge4 ≡ planned_count shape4 challenge3 + (3 - 1))
sharp =
    let t : OneIndex = table.10 in
    (subst (λ (L : ℕ). LeastPower L 3) (sym t.0) (power-between 8 2 (omega arith) (omega arith)), (let a = t.5 in let b = t.6 in omega arith))

-- D of FAEST-128s
pub least-power-128s : LeastPower (leaves faest128s) 15
unfolding faest128s leaves deeper level
least-power-128s = power-between 22528 14 (omega arith) (omega arith)

-- and of FAEST-128f
pub least-power-128f : LeastPower (leaves (record { tau = 16; k = 7; w = 8; t = 110; level = 128; kind = 0 })) 12
unfolding leaves deeper level
least-power-128f = power-between 3072 11 (omega arith) (omega arith)
