-- Numbers written with the highest byte first: bytes and number determine each other, and what one byte changes. From the laws of digits, the list the other way round.
use Prim.Native.Nat.{ℕ, zero, suc, ◌+◌, ◌-◌, ◌*◌, ◌^◌, ◌<◌}
use mathlib.Core.Path.{◌≡◌, sym, ap, ap₂, ◌∙◌}
use mathlib.Core.List.{List, [], ◌∷◌, ◌++◌, reverse, reverse-reverse, reverse-cons}
use native.Mathlib.Nat.{add-mul, mul_assoc, mul-zero, mul-one}
use native.Mathlib.Omega.{arith}
use lib.ListN.{length, get_or, set, length-reverse, length-set}
use Rattle.spec.specs.Bytes.{number, digits, big_endian, big_endian_bytes}
use Rattle.laws.proofs.Lists.{length-tabulate}
use Rattle.laws.proofs.Numbers.{Digits, pow-next, number_lt}
use Rattle.laws.proofs.Strings.{digits-reverse}
use Rattle.laws.proofs.Digits.{digits_number, number_digits}

pub big-endian-bytes : (n x : ℕ) → x < 2 ^ (8 * n) → big_endian (big_endian_bytes n x) ≡ x
unfolding big_endian big_endian_bytes
big-endian-bytes n x h = ap (number 8) (reverse-reverse (digits 8 n x)) ∙ number_digits 8 n x h

pub length-big-endian : (n x : ℕ) → length (big_endian_bytes n x) ≡ n
unfolding big_endian_bytes digits
length-big-endian n x = length-reverse (digits 8 n x) ∙ length-tabulate n _

pub bytes-big-endian : (xs : List ℕ) → Digits 8 xs → big_endian_bytes (length xs) (big_endian xs) ≡ xs
unfolding big_endian big_endian_bytes
bytes-big-endian xs h =
    ap (λ (n : ℕ). reverse (digits 8 n (number 8 (reverse xs)))) (sym (length-reverse xs))
    ∙ ap reverse (digits_number 8 (reverse xs) (digits-reverse 8 xs h))
    ∙ reverse-reverse xs

pub big-endian-lt : (xs : List ℕ) → Digits 8 xs → big_endian xs < 2 ^ (8 * length xs)
unfolding big_endian
big-endian-lt xs h = rw length-reverse at (number_lt 8 (reverse xs) (digits-reverse 8 xs h))

-- ---- a byte more in front, and another byte in a place

number_append : (k : ℕ) (xs ys : List ℕ) → number k (xs ++ ys) ≡ number k xs + number k ys * 2 ^ (k * length xs)
unfolding number
number_append k [] ys = rw (mul-zero, mul-one) (omega arith)
number_append k (x ∷ xs) ys =
    ap (λ (n : ℕ). x + n * 2 ^ k) (number_append k xs ys)
    ∙ omega (
      arith,
      add-mul (number k xs) (number k ys * 2 ^ (k * length xs)) (2 ^ k),
      mul_assoc (number k ys) (2 ^ (k * length xs)) (2 ^ k),
      ap (λ (n : ℕ). number k ys * n) (pow-next k (length xs)),
    )

pub big-cons : (x : ℕ) (xs : List ℕ) → big_endian (x ∷ xs) ≡ big_endian xs + x * 2 ^ (8 * length xs)
unfolding number big_endian
big-cons x xs =
    ap (number 8) (reverse-cons x xs)
    ∙ number_append 8 (reverse xs) (x ∷ [])
    ∙ ap₂ (λ (a n : ℕ). number 8 (reverse xs) + a * 2 ^ (8 * n)) (let e : x + 0 * 2 ^ 8 ≡ x = omega arith in e) (length-reverse xs)

-- byte `at` becomes x
pub big-set : (xs : List ℕ) (at x : ℕ) → at < length xs → big_endian (set xs at x) + get_or xs at 0 * 2 ^ (8 * (length xs - 1 - at)) ≡ big_endian xs + x * 2 ^ (8 * (length xs - 1 - at))
big-set [] at x h = absurd (omega arith)
big-set (y ∷ ys) zero x h = (let a = big-cons x ys in let b = big-cons y ys in let e : suc (length ys) - 1 - 0 ≡ length ys = omega arith in rw e (omega arith))
big-set (y ∷ ys) (suc at) x h =
    let a = big-cons y (set ys at x) in
    let b = big-cons y ys in
    let n = ap (λ (n : ℕ). y * 2 ^ (8 * n)) (length-set ys at x) in
    let m = big-set ys at x (omega arith) in
    let e : suc (length ys) - 1 - suc at ≡ length ys - 1 - at = omega arith in
    rw e (omega arith)
