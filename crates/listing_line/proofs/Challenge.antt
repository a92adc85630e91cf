-- The challenge of a line: 32 hexadecimal digits, and at most a line feed behind them. By induction on the place, and by the length.
use Prim.Native.Nat.{ℕ, zero, suc, ◌+◌, ◌≤◌, ◌<◌}
use mathlib.Core.Path.{◌≡◌, refl, sym, ap, ap₂, ◌∙◌, subst}
use mathlib.Core.Bool.{Bool, true, false, ◌&&◌, ◌||◌, true≢false}
use mathlib.Core.List.{List}
use native.Mathlib.Omega.{arith}
use native.Mathlib.Numerals.{add-one}
use native.Mathlib.Decide.{dec_lt}
use lib.Dec.{leb, eqb}
use lib.ListN.{length, get_or}
use borrow.Author.Tests.{leb-true, eqb-true}
use Rattle.laws.proofs.Conjunctions.{both_true, and-true, refuted}
use Rattle.listing_line.specs.Line.{is_digit, is_hex_digit, hex_below, challenge_ok}

pub hex-bounds : (c : ℕ) → is_hex_digit c ≡ true → is_digit c ≡ false → (97 ≤ c) × (c ≤ 102)
hex-bounds c e d =
    let q = both_true (leb 97 c) (leb c 102) (sym (ap (λ (b : Bool). b || (leb 97 c && leb c 102)) d) ∙ e) in
    (leb-true 97 c q.0, leb-true c 102 q.1)

pub hex-at : (n : ℕ) (text : List ℕ) (i : ℕ) → hex_below n text ≡ true → i < n → is_hex_digit (get_or text i 0) ≡ true
unfolding hex_below
hex-at zero text i e h = absurd (omega arith)
hex-at (suc n) text i e h = go (both_true (hex_below n text) (is_hex_digit (get_or text n 0)) e) (dec_lt i n) (hex-at n text i)
  where
    go : (hex_below n text ≡ true) × (is_hex_digit (get_or text n 0) ≡ true) → Dec (i < n)
        → (hex_below n text ≡ true → i < n → is_hex_digit (get_or text i 0) ≡ true) → is_hex_digit (get_or text i 0) ≡ true
    go q (yes l) ih = ih q.0 l
    go q (no l) ih = subst (λ (k : ℕ). is_hex_digit (get_or text k 0) ≡ true) (let z : n ≡ i = omega arith in z) q.1

pub hex-stop : (n : ℕ) (text : List ℕ) (i : ℕ) → i < n → is_hex_digit (get_or text i 0) ≡ false → false ≡ hex_below n text
hex-stop n text i h e = refuted (hex_below n text) (λ t. true≢false (sym (hex-at n text i t h) ∙ e))

pub hex-more : (n : ℕ) (text : List ℕ) → hex_below n text ≡ true → is_hex_digit (get_or text n 0) ≡ true → hex_below (n + 1) text ≡ true
unfolding hex_below
hex-more n text e h = ap (λ (k : ℕ). hex_below k text) (add-one n) ∙ ap₂ ◌&&◌ e h

pub challenge-facts : (text : List ℕ) → challenge_ok text ≡ true → (hex_below 32 text ≡ true) × (32 ≤ length text) × (length text ≤ 33)
unfolding challenge_ok
challenge-facts text e =
    let feed = eqb (get_or text 32 0) 10 in
    let q = both_true (hex_below 32 text) (eqb (length text) 32 || (eqb (length text) 33 && feed)) e in
    let l = size (length text) (eqb (length text) 32) (eqb (length text) 33) feed refl refl q.1 in
    (q.0, l.0, l.1)
  where
    size : (n : ℕ) (a b c : Bool) → eqb n 32 ≡ a → eqb n 33 ≡ b → (a || (b && c)) ≡ true → (32 ≤ n) × (n ≤ 33)
    size n true b c p q e = omega (arith, eqb-true n 32 p)
    size n false true c p q e = omega (arith, eqb-true n 33 q)
    size n false false c p q e = absurd (true≢false (sym e))

pub challenge-32 : (text : List ℕ) → length text ≡ 32 → hex_below 32 text ≡ challenge_ok text
unfolding challenge_ok
challenge-32 text e = rw e (and-true (hex_below 32 text))

pub challenge-33 : (text : List ℕ) → length text ≡ 33 → (hex_below 32 text && eqb (get_or text 32 0) 10) ≡ challenge_ok text
unfolding challenge_ok
challenge-33 text e = rw e refl

pub challenge-else : (text : List ℕ) → (length text ≡ 32 → ⊥) → (length text ≡ 33 → ⊥) → false ≡ challenge_ok text
challenge-else text a b = refuted (challenge_ok text) (λ t. omega (arith, (challenge-facts text t).1, (challenge-facts text t).2))
