-- The digits of a number in base 2 ^ k: a list of digits and the number that it writes determine each other, and a xor is taken digit by digit.
-- By induction on the digits.
use mathlib.Core.Path.{◌≡◌, refl, sym, ap, ap₂, ◌∙◌}
use mathlib.Core.List.{List, [], ◌∷◌}
use Prim.Native.Nat.{ℕ, zero, suc, ◌+◌, ◌*◌, ◌/◌, ◌%◌, ◌^◌, ◌<◌}
use native.Mathlib.Nat.{add_comm, mul-zero, mul-suc, div-one, mod-lt}
use native.Mathlib.Omega.{arith}
use lib.Arith.{digits_div, digits_mod}
use lib.Bits.{bit_xor, xor_shr, xor_mod}
use lib.ListN.{length}
use lib.Pow.{shr-shr, shr_lt, split}
use Rattle.spec.specs.Bytes.{bit, tabulate, number, digits}
use Rattle.laws.proofs.Lists.{tabulate-same}
use Rattle.laws.proofs.Numbers.{Digits}

pub bit-lt : (j n : ℕ) → bit j n < 2
bit-lt j n = mod-lt (n / 2 ^ j) (omega arith)

-- the lowest digit, and the others
pub digits-suc : (k n x : ℕ) → digits k (suc n) x ≡ x % 2 ^ k ∷ digits k n (x / 2 ^ k)
unfolding tabulate digits
digits-suc k n x =
    ap₂ (λ (y : ℕ) (l : List ℕ). y ∷ l) (rw (mul-zero, div-one))
    (tabulate-same n (λ i. x / 2 ^ (k * suc i) % 2 ^ k) (λ i. x / 2 ^ k / 2 ^ (k * i) % 2 ^ k)
    (λ i l. ap (λ (y : ℕ). y % 2 ^ k) (ap (λ (m : ℕ). x / 2 ^ m) (mul-suc k i ∙ add_comm (k * i) k) ∙ sym (shr-shr x k (k * i)))))

pub digits_number : (k : ℕ) (xs : List ℕ) → Digits k xs → digits k (length xs) (number k xs) ≡ xs
unfolding tabulate number digits
digits_number k [] h = refl
digits_number k (x ∷ xs) h =
    digits-suc k (length xs) (x + number k xs * 2 ^ k)
    ∙ rw (add_comm x (number k xs * 2 ^ k), digits_mod (number k xs) (h 0), digits_div (number k xs) (h 0))
    (ap (λ (l : List ℕ). x ∷ l) (digits_number k xs (λ i. h (suc i))))

pub number_digits : (k n x : ℕ) → x < 2 ^ (k * n) → number k (digits k n x) ≡ x
unfolding tabulate number digits
number_digits k zero x h = let l : x < 1 = rw (mul-zero k) at h in omega arith
number_digits k (suc n) x h =
    ap (number k) (digits-suc k n x)
    ∙ ap (λ (y : ℕ). x % 2 ^ k + y * 2 ^ k) (number_digits k n (x / 2 ^ k) (shr_lt (k * n) k (rw (mul-suc k n) at h)))
    ∙ add_comm (x % 2 ^ k) (x / 2 ^ k * 2 ^ k)
    ∙ split x k

pub digits-xor : (k n x y : ℕ) → digits k n (bit_xor x y) ≡ tabulate n (λ i. bit_xor (x / 2 ^ (k * i) % 2 ^ k) (y / 2 ^ (k * i) % 2 ^ k))
unfolding digits
digits-xor k n x y =
    tabulate-same n (λ i. bit_xor x y / 2 ^ (k * i) % 2 ^ k) (λ i. bit_xor (x / 2 ^ (k * i) % 2 ^ k) (y / 2 ^ (k * i) % 2 ^ k))
    (λ i l. ap (λ (z : ℕ). z % 2 ^ k) (xor_shr x y (k * i)) ∙ xor_mod (x / 2 ^ (k * i)) (y / 2 ^ (k * i)) k)
