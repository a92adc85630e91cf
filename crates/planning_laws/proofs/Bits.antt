-- The bits of a challenge taken one at a time: one step of the index that n bits make, and of the test that n bits are 0. By the first of the bits.
use Prim.Native.Nat.{ℕ, zero, suc, ◌+◌, ◌-◌, ◌*◌, ◌/◌, ◌%◌, ◌^◌, ◌≤◌, ◌<◌}
use mathlib.Core.Path.{◌≡◌, refl, sym, ap, ap₂, ◌∙◌}
use mathlib.Core.Bool.{true, false, ◌&&◌}
use mathlib.Core.List.{List, ◌∷◌}
use native.Mathlib.Omega.{arith}
use native.Mathlib.Nat.{mod-lt, two-pow-succ, lt_of_lt_of_le}
use lib.Dec.{eqb, lit<}
use lib.ListN.{get_or}
use lib.Pow.{pow_mono}
use borrow.Author.Tests.{eq-eqb, ne_eqb}
use Rattle.spec.specs.Bytes.{tabulate, number, all_zero}
use Rattle.spec.specs.Challenge.{bit_at, bits_at, index_at, clear_at}
use Rattle.laws.proofs.Lists.{tabulate-same}

pub bit-lt : (ch : List ℕ) (b : ℕ) → bit_at ch b < 2
unfolding bit_at
bit-lt ch b = mod-lt (get_or ch (b / 8) 0 / 2 ^ (b % 8)) (lit< tt)

bits-more : (ch : List ℕ) (at n : ℕ) → bits_at ch at (suc n) ≡ bit_at ch at ∷ bits_at ch (at + 1) n
unfolding bits_at tabulate
bits-more ch at n =
    ap₂ (λ (x : ℕ) (l : List ℕ). x ∷ l) (ap (bit_at ch) (let z : at + 0 ≡ at = omega arith in z))
    (tabulate-same n (λ i. bit_at ch (at + suc i)) (λ i. bit_at ch (at + 1 + i)) (λ i l. ap (bit_at ch) (let z : at + suc i ≡ at + 1 + i = omega arith in z)))

-- ---- the index

pub index-more : (ch : List ℕ) (at n : ℕ) → index_at ch at (suc n) ≡ 2 * index_at ch (at + 1) n + bit_at ch at
unfolding index_at number
index-more ch at n = ap (number 1) (bits-more ch at n) ∙ omega arith

pub index-none : (ch : List ℕ) (at n : ℕ) → n ≡ 0 → 0 ≡ index_at ch at n
unfolding index_at bits_at tabulate number
index-none ch at n e = rw e refl

pub index-lt : (ch : List ℕ) (at n : ℕ) → index_at ch at n < 2 ^ n
unfolding index_at bits_at tabulate number
index-lt ch at zero = lit< tt
index-lt ch at (suc n) = rw (index-more, two-pow-succ) (let a = bit-lt ch at in let b = index-lt ch (at + 1) n in omega arith)

pub index-small : (ch : List ℕ) (at n : ℕ) → n ≤ 12 → index_at ch at n < 4096
index-small ch at n h = lt_of_lt_of_le (index-lt ch at n) (pow_mono h)

-- a loop from the last bit down: bit j - 1 below those from j on
pub index-step : (ch : List ℕ) (at k j : ℕ) → 0 < j → j ≤ k
    → index_at ch (at + (j - 1)) (k - (j - 1)) ≡ 2 * index_at ch (at + j) (k - j) + bit_at ch (at + (j - 1))
index-step ch at k j h l =
    let n : k - (j - 1) ≡ suc (k - j) = omega arith in
    let e : at + (j - 1) + 1 ≡ at + j = omega arith in
    ap (index_at ch (at + (j - 1))) n
    ∙ index-more ch (at + (j - 1)) (k - j)
    ∙ ap (λ (a : ℕ). 2 * index_at ch a (k - j) + bit_at ch (at + (j - 1))) e

pub index-all : (ch : List ℕ) (at k j : ℕ) → j ≡ 0 → index_at ch (at + j) (k - j) ≡ index_at ch at k
index-all ch at k j h = ap₂ (index_at ch) (let z : at + j ≡ at = omega arith in z) (let z : k - j ≡ k = omega arith in z)

-- ---- clear bits, from the first up

clear-more : (ch : List ℕ) (at n : ℕ) → clear_at ch at (suc n) ≡ (eqb (bit_at ch at) 0 && clear_at ch (at + 1) n)
unfolding clear_at all_zero
clear-more ch at n = ap all_zero (bits-more ch at n)

clear_step : (ch : List ℕ) (at n j : ℕ) → j < n → clear_at ch (at + j) (n - j) ≡ (eqb (bit_at ch (at + j)) 0 && clear_at ch (at + (j + 1)) (n - (j + 1)))
clear_step ch at n j h =
    let m : n - j ≡ suc (n - (j + 1)) = omega arith in
    let e : at + j + 1 ≡ at + (j + 1) = omega arith in
    ap (clear_at ch (at + j)) m
    ∙ clear-more ch (at + j) (n - (j + 1))
    ∙ ap (λ (a : ℕ). eqb (bit_at ch (at + j)) 0 && clear_at ch a (n - (j + 1))) e

-- bit j is 1: not all are 0
pub clear-hit : (ch : List ℕ) (at n j r : ℕ) → j < n → clear_at ch at n ≡ clear_at ch (at + j) (n - j) → r ≡ bit_at ch (at + j) → (r ≡ 0 → ⊥)
    → false ≡ clear_at ch at n
clear-hit ch at n j r h inv e ne = sym (inv ∙ clear_step ch at n j h ∙ rw (← e, ne_eqb r 0 ne))

-- bit j is 0: those after it decide
pub clear-miss : (ch : List ℕ) (at n j r : ℕ) → j < n → clear_at ch at n ≡ clear_at ch (at + j) (n - j) → r ≡ bit_at ch (at + j) → r ≡ 0
    → clear_at ch at n ≡ clear_at ch (at + (j + 1)) (n - (j + 1))
clear-miss ch at n j r h inv e z = inv ∙ clear_step ch at n j h ∙ rw (← e, eq-eqb r 0 z)

pub clear-start : (ch : List ℕ) (at n : ℕ) → clear_at ch at n ≡ clear_at ch (at + 0) (n - 0)
clear-start ch at n = ap₂ (clear_at ch) (let z : at ≡ at + 0 = omega arith in z) (let z : n ≡ n - 0 = omega arith in z)

pub clear_none : (ch : List ℕ) (at n : ℕ) → n ≡ 0 → true ≡ clear_at ch at n
unfolding clear_at bits_at tabulate all_zero
clear_none ch at n e = rw e refl
