-- Numbers and their digits in base 2 ^ k: a number is fixed by its digits, and each digit can be read off. By induction on the digits.
use mathlib.Core.Path.{◌≡◌, sym, ap, ◌∙◌}
use mathlib.Core.List.{List, [], ◌∷◌}
use Prim.Native.Nat.{ℕ, zero, suc, ◌+◌, ◌*◌, ◌^◌, ◌<◌}
use native.Mathlib.Nat.{add-mul, mul_assoc, mul-zero, mul-suc, zero-mul, zero-add, mul-one, add_comm}
use native.Mathlib.Numerals.{add-one}
use native.Mathlib.Omega.{arith}
use lib.Arith.{digits_lt}
use lib.ListN.{length, get_or, take}
use lib.Pow.{pow-add}
use Rattle.spec.specs.Bytes.{number}

-- each element is a digit in base 2 ^ k
abbrev pub Digits : ℕ → List ℕ → Type 0
Digits k xs = (i : ℕ) → get_or xs i 0 < 2 ^ k

pub pow-next : (k i : ℕ) → 2 ^ (k * suc i) ≡ 2 ^ (k * i) * 2 ^ k
pow-next k i = ap (λ (x : ℕ). 2 ^ x) (mul-suc k i) ∙ pow-add 2 (k * i) k

-- one more digit at the top
pub number_more : (k : ℕ) (xs : List ℕ) (i : ℕ) → i < length xs → number k (take (i + 1) xs) ≡ number k (take i xs) + get_or xs i 0 * 2 ^ (k * i)
unfolding number
number_more k [] i h = absurd (omega arith)
number_more k (x ∷ xs) zero h = rw (zero-mul, mul-zero, zero-add, mul-one) (omega arith)
number_more k (x ∷ xs) (suc i) h =
    rw add-one
    (ap (λ (n : ℕ). x + n * 2 ^ k) (ap (λ (n : ℕ). number k (take n xs)) (sym (add-one i)) ∙ number_more k xs i (omega arith))
    ∙ omega (
      arith,
      add-mul (number k (take i xs)) (get_or xs i 0 * 2 ^ (k * i)) (2 ^ k),
      mul_assoc (get_or xs i 0) (2 ^ (k * i)) (2 ^ k),
      ap (λ (n : ℕ). get_or xs i 0 * n) (pow-next k i),
    ))

pub number_lt : (k : ℕ) (xs : List ℕ) → Digits k xs → number k xs < 2 ^ (k * length xs)
unfolding number
number_lt k [] h = rw mul-zero (omega arith)
number_lt k (x ∷ xs) h = rw (pow-next, add_comm) (digits_lt (number_lt k xs (λ i. h (suc i))) (h zero))
