-- A number that is printed is read as the same number: by induction on its tenth parts, which its digits but the last write.
use Prim.Native.Nat.{ℕ, zero, suc, ◌+◌, ◌-◌, ◌*◌, ◌/◌, ◌%◌, ◌^◌, ◌≤◌, ◌<◌}
use mathlib.Core.Path.{◌≡◌, refl, sym, ap, ap₂, ◌∙◌}
use mathlib.Core.Bool.{true, cond, ◌&&◌}
use mathlib.Core.List.{List, [], ◌∷◌, ◌++◌}
use native.Mathlib.Omega.{arith}
use native.Mathlib.Decide.{dec_lt}
use lib.Dec.{leb}
use lib.ListN.{length, take, length-append}
use lib.Seq.{take_at, drop_at}
use borrow.Author.Tests.{le-leb}
use Rattle.spec.specs.declared.Shape.{Shape}
use Rattle.spec.specs.Bytes.{digits}
use Rattle.spec.specs.Shapes.{level, challenge_bytes, planned_count}
use Rattle.laws.proofs.Lists.{length-tabulate}
use Rattle.listing_line.specs.Line.{is_digit, digit_run, decimal_from, number_of}
use Rattle.listing_text.specs.Text.{decimal}
use Rattle.listing_text.proofs.Decimal.{decimal-one, decimal-more}
use Rattle.enumeration_text.specs.Listed.{open_bits, challenge_at, listed_at, listed, within, total}
use Rattle.enumeration_text.specs.Text.{hex_text, line_text}
use Rattle.enumeration_text.proofs.Lines.{hex-length}
use Rattle.enumeration_text.proofs.Sums.{sum_same}
use Rattle.enumeration.specs.ReadBack.{printed_count, ReadBack}

-- each byte is a decimal digit
AllDigits : List ℕ → Type 0
AllDigits [] = Unit {0}
AllDigits (c ∷ cs) = (is_digit c ≡ true) × AllDigits cs

digits_append : (xs ys : List ℕ) → AllDigits xs → AllDigits ys → AllDigits (xs ++ ys)
unfolding AllDigits
digits_append [] ys a b = b
digits_append (x ∷ xs) ys a b = (a.0, digits_append xs ys a.1 b)

-- the run of digits in front of a line feed
run_of : (xs : List ℕ) → AllDigits xs → digit_run (xs ++ (10 ∷ [])) ≡ length xs
unfolding AllDigits digit_run
run_of [] a = refl
run_of (x ∷ xs) a = rw a.0 (ap suc (run_of xs a.1))

from-append : (v : ℕ) (xs : List ℕ) (c : ℕ) → decimal_from v (xs ++ (c ∷ [])) ≡ 10 * decimal_from v xs + (c - 48)
unfolding decimal_from
from-append v [] c = refl
from-append v (x ∷ xs) c = from-append (10 * v + (x - 48)) xs c

digit_ok : (d : ℕ) → d < 10 → is_digit (48 + d) ≡ true
digit_ok d h = ap₂ ◌&&◌ (le-leb 48 (48 + d) (omega arith)) (le-leb (48 + d) 57 (omega arith))

-- the digits of n are digits, and write n
written : (bound n : ℕ) → n < bound → AllDigits (decimal n) × (decimal_from 0 (decimal n) ≡ n)
unfolding AllDigits decimal_from
written zero n h = absurd (omega arith)
written (suc bound) n h = go (dec_lt n 10) (written bound (n / 10))
  where
    go : Dec (n < 10) → (n / 10 < bound → AllDigits (decimal (n / 10)) × (decimal_from 0 (decimal (n / 10)) ≡ n / 10))
        → AllDigits (decimal n) × (decimal_from 0 (decimal n) ≡ n)
    go (yes l) ih = rw (decimal-one n l) ((digit_ok n l, tt), omega arith)
    go (no l) ih =
        let q = ih (omega arith) in
        let e = from-append 0 (decimal (n / 10)) (48 + n % 10) in
        let v = q.1 in
        rw (decimal-more n (let m : 10 ≤ n = omega arith in m))
        (digits_append (decimal (n / 10)) ((48 + n % 10) ∷ []) q.0 (digit_ok (n % 10) (omega arith), tt), omega arith)

number_read : (n : ℕ) → number_of (decimal n ++ (10 ∷ [])) ≡ n
unfolding number_of
number_read n =
    let q = written (suc n) n (omega arith) in
    ap (λ (m : ℕ). decimal_from 0 (take m (decimal n ++ (10 ∷ [])))) (run_of (decimal n) q.0)
    ∙ ap (decimal_from 0) (take_at (decimal n) (10 ∷ []) (length (decimal n)) refl)
    ∙ q.1

count-read : (s : Shape) (x : ℕ) → level s ≡ 128 → printed_count (line_text (listed_at s x)) ≡ (listed_at s x).count
unfolding line_text listed_at challenge_at digits challenge_bytes
count-read s x e =
    let ch = challenge_at s x in
    let n = planned_count s ch in
    let size : length (hex_text ch) ≡ 2 * length ch = hex-length ch in
    let bytes : length ch ≡ 16 = length-tabulate (level s / 8) _ ∙ ap (λ (m : ℕ). m / 8) e in
    let front : length (hex_text ch ++ (32 ∷ [])) ≡ 33 = omega (arith, length-append (hex_text ch) (32 ∷ [])) in
    ap number_of (drop_at (hex_text ch ++ (32 ∷ [])) (decimal n ++ (10 ∷ [])) 33 front) ∙ number_read n

pub read_back : (s : Shape) → level s ≡ 128 → ReadBack s
unfolding listed within total
read_back s e =
    record {
      each-count = λ x. count-read s x e;
      first-total = λ t. sum_same _ _ (2 ^ open_bits s) (listed_at s) (λ x. ap (λ (n : ℕ). cond (leb n t) 1 0) (sym (count-read s x e)));
      second-total = sum_same _ _ (2 ^ open_bits s) (listed_at s) (λ x. sym (count-read s x e));
    }
