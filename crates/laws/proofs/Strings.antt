-- Strings of digits: strings of zeros, a string put together of two, a part of one, one the other way round, the number that a part of a string writes, and the xor of strings that stand side by side.
-- By induction on the strings.
use mathlib.Core.Path.{◌≡◌, refl, sym, ap, ap₂, ◌∙◌}
use mathlib.Core.List.{List, [], ◌∷◌, ◌++◌, reverse, reverse_aux}
use Prim.Native.Nat.{ℕ, zero, suc, ◌+◌, ◌-◌, ◌*◌, ◌^◌, ◌≤◌, ◌<◌}
use native.Mathlib.Nat.{add_comm, zero-mul, sub-zero, zero-sub, suc-sub-suc}
use native.Mathlib.Omega.{arith}
use native.Mathlib.Decide.{dec_lt}
use lib.Bits.{bit_xor, xor_zero_l, xor_zero_r, xor_block}
use lib.ListN.{length, get_or, set, take, drop, length-take, get_or-eq_default}
use lib.Pow.{pow_pos}
use lib.Seq.{take-nil, drop-nil}
use Rattle.spec.specs.Bytes.{part, tabulate, zeros, xor_bytes, number}
use Rattle.laws.proofs.Lists.{get_or-part}
use Rattle.laws.proofs.Numbers.{Digits}

-- strings of zeros
pub get_or-zeros : (n i : ℕ) → get_or (zeros n) i 0 ≡ 0
unfolding zeros
get_or-zeros zero i = refl
get_or-zeros (suc n) zero = refl
get_or-zeros (suc n) (suc i) = get_or-zeros n i

pub zeros-tabulate : (n : ℕ) → zeros n ≡ tabulate n (λ i. 0)
unfolding zeros tabulate
zeros-tabulate zero = refl
zeros-tabulate (suc n) = ap (λ (l : List ℕ). 0 ∷ l) (zeros-tabulate n)

pub take-zeros : (k n : ℕ) → k ≤ n → take k (zeros n) ≡ zeros k
unfolding zeros
take-zeros zero n h = refl
take-zeros (suc k) zero h = absurd (omega arith)
take-zeros (suc k) (suc n) h = ap (λ (l : List ℕ). 0 ∷ l) (take-zeros k n (omega arith))

pub drop-zeros : (k n : ℕ) → drop k (zeros n) ≡ zeros (n - k)
unfolding zeros
drop-zeros zero n = rw sub-zero
drop-zeros (suc k) zero = rw zero-sub
drop-zeros (suc k) (suc n) = rw suc-sub-suc (drop-zeros k n)

pub part-zeros : (n at l : ℕ) → at + l ≤ n → part (zeros n) at l ≡ zeros l
part-zeros n at l h = ap (take l) (drop-zeros at n) ∙ take-zeros l (n - at) (omega arith)

pub get_or-append-zeros : (p : List ℕ) (n i : ℕ) → get_or (p ++ zeros n) i 0 ≡ get_or p i 0
get_or-append-zeros [] n i = get_or-zeros n i
get_or-append-zeros (x ∷ p) n zero = refl
get_or-append-zeros (x ∷ p) n (suc i) = get_or-append-zeros p n i

-- strings of digits in base 2 ^ k
pub digits-zeros : (k n : ℕ) → Digits k (zeros n)
digits-zeros k n i = rw get_or-zeros (pow_pos k)

pub digits_append : (k : ℕ) (a b : List ℕ) → Digits k a → Digits k b → Digits k (a ++ b)
digits_append k [] b ha hb i = hb i
digits_append k (x ∷ a) b ha hb zero = ha zero
digits_append k (x ∷ a) b ha hb (suc i) = digits_append k a b (λ i. ha (suc i)) hb i

pub digits-part : (k : ℕ) (xs : List ℕ) (at n : ℕ) → Digits k xs → Digits k (part xs at n)
digits-part k xs at n h i = go (dec_lt i n)
  where
    go : Dec (i < n) → get_or (part xs at n) i 0 < 2 ^ k
    go (yes l) = rw (get_or-part xs at n i l) (h (at + i))
    go (no l) = rw (get_or-eq_default (part xs at n) 0 {n = i} (omega (arith, length-take n (drop at xs)))) (pow_pos k)

pub digits-reverse : (k : ℕ) (xs : List ℕ) → Digits k xs → Digits k (reverse xs)
digits-reverse k xs h = go xs [] h (λ i. pow_pos k)
  where
    both : (x : ℕ) (ys : List ℕ) → x < 2 ^ k → Digits k ys → Digits k (x ∷ ys)
    both x ys p q zero = p
    both x ys p q (suc i) = q i

    go : (xs ys : List ℕ) → Digits k xs → Digits k ys → Digits k (reverse_aux xs ys)
    go [] ys h g = g
    go (x ∷ xs) ys h g = go xs (x ∷ ys) (λ i. h (suc i)) (both x ys (h 0) g)

-- the number that a part of a string writes, by its lowest digit; past its end a string has zeros
pub number-part : (k : ℕ) (p : List ℕ) (at n : ℕ) → number k (part p at (suc n)) ≡ get_or p at 0 + number k (part p (suc at) n) * 2 ^ k
unfolding number
number-part k [] at n = simp (drop-nil, take-nil, zero-mul)
number-part k (x ∷ p) zero n = refl
number-part k (x ∷ p) (suc at) n = number-part k p at n

-- the number of a part of a string that is the xor of two, digit by digit
pub number-xor : (k : ℕ) (a b c : List ℕ) → Digits k a → Digits k b → ((i : ℕ) → get_or c i 0 ≡ bit_xor (get_or a i 0) (get_or b i 0))
    → (at n : ℕ) → number k (part c at n) ≡ bit_xor (number k (part a at n)) (number k (part b at n))
unfolding number
number-xor k a b c ha hb e at zero = refl
number-xor k a b c ha hb e at (suc n) =
    let low : List ℕ → ℕ = λ l. get_or l at 0 in
    let high : List ℕ → ℕ = λ l. number k (part l (suc at) n) in
    let lowest : (l : List ℕ) → number k (part l at (suc n)) ≡ high l * 2 ^ k + low l = λ l. number-part k l at n ∙ add_comm (low l) (high l * 2 ^ k) in
    lowest c
    ∙ ap₂ (λ (x y : ℕ). x * 2 ^ k + y) (number-xor k a b c ha hb e (suc at) n) (e at)
    ∙ sym (ap₂ bit_xor (lowest a) (lowest b) ∙ xor_block k (high a) (high b) (low a) (low b) (ha at) (hb at))

-- a string that goes on where t ended, xored with t
pub append-xor : (t p : List ℕ) (n i : ℕ) → get_or (t ++ p) i 0 ≡ bit_xor (get_or t i 0) (get_or (zeros (length t) ++ (p ++ zeros n)) i 0)
unfolding zeros
append-xor [] p n i = sym (xor_zero_l (get_or (p ++ zeros n) i 0) ∙ get_or-append-zeros p n i)
append-xor (x ∷ t) p n zero = sym (xor_zero_r x)
append-xor (x ∷ t) p n (suc i) = append-xor t p n i

-- the last of the first i + 1 digits xored with v
pub set-xor : (l : List ℕ) (i v : ℕ) → i < length l → take (suc i) (set l i (bit_xor (get_or l i 0) v)) ≡ xor_bytes (take (suc i) l) (zeros i ++ (v ∷ []))
unfolding zeros xor_bytes
set-xor [] i v h = absurd (omega arith)
set-xor (x ∷ l) zero v h = refl
set-xor (x ∷ l) (suc i) v h = ap₂ ◌∷◌ (sym (xor_zero_r x)) (set-xor l i v (omega arith))

pub length-xor_bytes : (a b : List ℕ) → length a ≡ length b → length (xor_bytes a b) ≡ length a
unfolding xor_bytes
length-xor_bytes [] b h = refl
length-xor_bytes (x ∷ a) [] h = absurd (omega arith)
length-xor_bytes (x ∷ a) (y ∷ b) h = ap suc (length-xor_bytes a b (omega arith))
