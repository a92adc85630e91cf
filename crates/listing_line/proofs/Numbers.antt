-- The numbers of a line: a run of digits is told by its digits and by what ends it, and i digits make a number below 10 ^ i. By induction on the text or
-- on the place in it.
use Prim.Native.Nat.{ℕ, zero, suc, ◌+◌, ◌-◌, ◌*◌, ◌^◌, ◌≤◌, ◌<◌}
use mathlib.Core.Path.{◌≡◌, refl, sym, ap, ◌∙◌}
use mathlib.Core.Bool.{Bool, true, false, ◌&&◌, ◌||◌, cond, true≢false}
use mathlib.Core.List.{List, [], ◌∷◌}
use native.Mathlib.Omega.{arith}
use native.Mathlib.Nat.{pow-suc, pow-le-pow_right}
use native.Mathlib.Numerals.{add-one}
use lib.Dec.{leb, eqb}
use lib.ListN.{length, get_or, take, drop, drop_of_length-le, get_or-eq_default}
use borrow.Author.Tests.{leb-true, eqb-true, eq-eqb, ne_eqb}
use Rattle.laws.proofs.Conjunctions.{both_true, and-true, refuted}
use Rattle.listing_line.specs.Line.{is_digit, digit_run, decimal_from, number_ok, after_number, behind, last_number_ok}

pub digit-bounds : (c : ℕ) → is_digit c ≡ true → (48 ≤ c) × (c ≤ 57)
digit-bounds c e = (let q = both_true (leb 48 c) (leb c 57) e in (leb-true 48 c q.0, leb-true c 57 q.1))

-- a run ends where what follows is no digit; behind the text stands 0
pub run_is : (text : List ℕ) (n : ℕ) → n ≤ length text → ((i : ℕ) → i < n → is_digit (get_or text i 0) ≡ true) → is_digit (get_or text n 0) ≡ false
    → n ≡ digit_run text
unfolding digit_run
run_is [] zero h f e = refl
run_is [] (suc n) h f e = absurd (omega arith)
run_is (c ∷ cs) zero h f e = rw e refl
run_is (c ∷ cs) (suc n) h f e = rw (f 0 (omega arith)) (ap suc (run_is cs n (omega arith) (λ i l. f (suc i) (omega arith)) e))

pub end-no-digit : (text : List ℕ) (n : ℕ) → length text ≤ n → is_digit (get_or text n 0) ≡ false
end-no-digit text n h = ap is_digit (get_or-eq_default text 0 h)

pub run-digits : (text : List ℕ) (i : ℕ) → i < digit_run text → is_digit (get_or text i 0) ≡ true
unfolding digit_run
run-digits [] i h = absurd (omega arith)
run-digits (c ∷ cs) i h = go i (is_digit c) refl h (run-digits cs)
  where
    go : (i : ℕ) (b : Bool) → is_digit c ≡ b → i < cond b (suc (digit_run cs)) 0 → ((k : ℕ) → k < digit_run cs → is_digit (get_or cs k 0) ≡ true)
        → is_digit (get_or (c ∷ cs) i 0) ≡ true
    go i false e l f = absurd (omega arith)
    go zero true e l f = e
    go (suc i) true e l f = f i (omega arith)

run_length : (text : List ℕ) → digit_run text ≤ length text
unfolding digit_run
run_length [] = omega arith
run_length (c ∷ cs) = go (is_digit c) (run_length cs)
  where
    go : (b : Bool) → digit_run cs ≤ length cs → cond b (suc (digit_run cs)) 0 ≤ suc (length cs)
    go true l = omega arith
    go false l = omega arith

pub number-facts : (text : List ℕ) → number_ok text ≡ true → (1 ≤ digit_run text) × (digit_run text ≤ 5) × (get_or text (digit_run text) 0 ≡ 32)
unfolding number_ok
number-facts text e =
    let p = both_true (leb 1 (digit_run text) && leb (digit_run text) 5) (eqb (get_or text (digit_run text) 0) 32) e in
    let q = both_true (leb 1 (digit_run text)) (leb (digit_run text) 5) p.0 in
    (leb-true _ _ q.0, leb-true _ _ q.1, eqb-true _ _ p.1)

-- digits alone are no number
pub no-space : (text : List ℕ) → digit_run text ≡ length text → false ≡ number_ok text
no-space text h =
    refuted (number_ok text) (λ t. omega (arith, (number-facts text t).2, get_or-eq_default text 0 (let l : length text ≤ digit_run text = omega arith in l)))

-- a number and at most a line feed
pub last-facts : (text : List ℕ) → last_number_ok text ≡ true → (digit_run text ≤ 5) × (length text ≤ digit_run text + 1)
unfolding last_number_ok
last-facts text e =
    let n = digit_run text in
    let p = both_true (leb 1 n && leb n 5) (eqb (length text) n || (eqb (length text) (n + 1) && eqb (get_or text n 0) 10)) e in
    let q = both_true (leb 1 n) (leb n 5) p.0 in
    (leb-true _ _ q.1, size (length text) n (eqb (length text) n) (eqb (length text) (n + 1)) (eqb (get_or text n 0) 10) refl refl p.1)
  where
    size : (m n : ℕ) (a b c : Bool) → eqb m n ≡ a → eqb m (n + 1) ≡ b → (a || (b && c)) ≡ true → m ≤ n + 1
    size m n true b c p q e = omega (arith, eqb-true m n p)
    size m n false true c p q e = omega (arith, eqb-true m (n + 1) q)
    size m n false false c p q e = absurd (true≢false (sym e))

-- the tests of a last number, with nothing and with something behind its digits
pub last_end : (text : List ℕ) (n : ℕ) → n ≡ digit_run text → n ≡ length text → (leb 1 n && leb n 5) ≡ last_number_ok text
unfolding last_number_ok
last_end text n e h = rw (← e, ← h, eq-eqb n n refl) (and-true (leb 1 n && leb n 5))

pub last_more : (text : List ℕ) (n : ℕ) → n ≡ digit_run text → (n ≡ length text → ⊥)
    → (leb 1 n && leb n 5 && (eqb (length text) (n + 1) && eqb (get_or text n 0) 10)) ≡ last_number_ok text
unfolding last_number_ok
last_more text n e h = rw (← e, ne_eqb (length text) n (λ q. h (sym q))) refl

-- one digit more
pub value-more : (v : ℕ) (xs : List ℕ) (i : ℕ) → i < length xs → decimal_from v (take (suc i) xs) ≡ 10 * decimal_from v (take i xs) + (get_or xs i 0 - 48)
unfolding decimal_from
value-more v [] i h = absurd (omega arith)
value-more v (x ∷ xs) zero h = refl
value-more v (x ∷ xs) (suc i) h = value-more (10 * v + (x - 48)) xs i (omega arith)

value-lt : (text : List ℕ) (i : ℕ) → i ≤ digit_run text → decimal_from 0 (take i text) < 10 ^ i
unfolding decimal_from
value-lt text zero h = omega arith
value-lt text (suc i) h =
    let ih = value-lt text i (omega arith) in
    let d = digit-bounds (get_or text i 0) (run-digits text i h) in
    omega (arith, value-more 0 text i (omega (arith, run_length text)), pow-suc 10 i)

pub value-small : (text : List ℕ) (i : ℕ) → digit_run text ≤ 5 → i < digit_run text → decimal_from 0 (take i text) < 10000
value-small text i e h =
    let l : i ≤ 4 = omega arith in
    let p : 10 ^ i ≤ 10 ^ 4 = pow-le-pow_right (omega arith) l in
    omega (arith, value-lt text i (omega arith))

-- ---- what stands behind numbers

pub after-end : (text : List ℕ) (n : ℕ) → n ≡ digit_run text → n ≡ length text → drop n text ≡ after_number text
unfolding after_number
after-end text n e h =
    let l : length text ≤ n = omega arith in
    let m : length text ≤ digit_run text + 1 = omega arith in
    drop_of_length-le text l ∙ sym (drop_of_length-le text m)

pub behind_more : (n : ℕ) (input : List ℕ) → behind (n + 1) input ≡ after_number (behind n input)
unfolding behind
behind_more n input = ap (λ (k : ℕ). behind k input) (add-one n)
