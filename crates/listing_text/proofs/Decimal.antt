-- A number in decimal: one digit, or the digits of its tenth part and one more. By induction on the steps allowed, which more than suffice.
use Prim.Native.Nat.{ℕ, zero, suc, ◌+◌, ◌/◌, ◌%◌, ◌^◌, ◌≤◌, ◌<◌}
use mathlib.Core.Path.{◌≡◌, refl, ap, ◌∙◌}
use mathlib.Core.Bool.{cond}
use mathlib.Core.List.{List, [], ◌∷◌, ◌++◌}
use native.Mathlib.Omega.{arith}
use native.Mathlib.Nat.{mod-eq_of_lt, pow-suc}
use native.Mathlib.Decide.{dec_lt}
use lib.Dec.{ltb}
use lib.ListN.{length, length-append}
use borrow.Author.Tests.{lt-ltb, le-ltb}
use Rattle.listing_text.specs.Text.{decimal_within, decimal}
use Rattle.listing_text.specs.Put.{number_line}

-- more steps than the number change nothing
enough : (s t n : ℕ) → n < s → n < t → decimal_within s n ≡ decimal_within t n
unfolding decimal_within
enough zero t n h l = absurd (omega arith)
enough (suc s) zero n h l = absurd (omega arith)
enough (suc s) (suc t) n h l = go (dec_lt n 10) (enough s t (n / 10))
  where
    go : Dec (n < 10) → (n / 10 < s → n / 10 < t → decimal_within s (n / 10) ≡ decimal_within t (n / 10))
        → cond (ltb n 10) [] (decimal_within s (n / 10)) ++ ((48 + n % 10) ∷ []) ≡ cond (ltb n 10) [] (decimal_within t (n / 10)) ++ ((48 + n % 10) ∷ [])
    go (yes b) ih = rw (lt-ltb n 10 b) refl
    go (no b) ih = ap (λ (xs : List ℕ). cond (ltb n 10) [] xs ++ ((48 + n % 10) ∷ [])) (ih (omega arith) (omega arith))

pub decimal-one : (n : ℕ) → n < 10 → decimal n ≡ (48 + n) ∷ []
unfolding decimal decimal_within
decimal-one n h = rw (lt-ltb n 10 h, mod-eq_of_lt h) refl

pub decimal-more : (n : ℕ) → 10 ≤ n → decimal n ≡ decimal (n / 10) ++ ((48 + n % 10) ∷ [])
unfolding decimal decimal_within
decimal-more n h =
    rw (le-ltb n 10 h) (ap (λ (xs : List ℕ). xs ++ ((48 + n % 10) ∷ [])) (enough n (suc (n / 10)) (n / 10) (omega arith) (omega arith)))

pub more-length : (n : ℕ) → 10 ≤ n → length (decimal n) ≡ length (decimal (n / 10)) + 1
more-length n h = ap length (decimal-more n h) ∙ length-append (decimal (n / 10)) ((48 + n % 10) ∷ [])

pub decimal-length : (k n : ℕ) → n < 10 ^ suc k → length (decimal n) ≤ suc k
decimal-length zero n h = rw (decimal-one n h) (omega arith)
decimal-length (suc k) n h = go (dec_lt n 10) (decimal-length k (n / 10))
  where
    go : Dec (n < 10) → (n / 10 < 10 ^ suc k → length (decimal (n / 10)) ≤ suc k) → length (decimal n) ≤ suc (suc k)
    go (yes l) ih = rw (decimal-one n l) (omega arith)
    go (no l) ih = omega (arith, ih (omega (arith, pow-suc 10 (suc k))), more-length n (omega arith))

pub decimal-short : (n : ℕ) → n < 100000 → length (decimal n) ≤ 5
decimal-short n h = decimal-length 4 n h

pub line-short : (n : ℕ) → n < 100000 → length (number_line n) ≤ 6
line-short n h = omega (arith, decimal-short n h, length-append (decimal n) (10 ∷ []))
