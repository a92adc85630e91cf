-- The claims about the list: bits of a challenge are bits of the number that its bytes write, so that a vector's index is a digit of that number, and clear grinding bits
-- bound it. Which index is the first to differ, by going down from the last vector.
use Prim.Native.Nat.{ℕ, zero, suc, ◌+◌, ◌*◌, ◌/◌, ◌%◌, ◌^◌, ◌≤◌, ◌<◌}
use mathlib.Core.Path.{◌≡◌, refl, sym, ap, ap₂, ◌∙◌, subst}
use mathlib.Core.Bool.{true}
use mathlib.Core.List.{List, [], ◌∷◌}
use native.Mathlib.Omega.{arith}
use native.Mathlib.Nat.{mod-lt, mod-eq_of_lt, mod-one, zero-mod, div-eq_of_lt, div-one, lt_of_lt_of_le}
use native.Mathlib.Numerals.{add-one}
use native.Mathlib.Decide.{ℕ_discrete, dec_lt}
use lib.Dec.{eqb}
use lib.Arith.{lt_of_le-ne}
use lib.ListN.{length, get_or, get_or-eq_default}
use lib.Pow.{pow_pos, pow_mono, shr-shr, shr_lt, shr_mono, split, mod-pow-add}
use borrow.Author.Tests.{eqb-true, ne_eqb}
use Rattle.spec.specs.declared.Shape.{Shape}
use Rattle.spec.specs.Bytes.{tabulate, number, digits, all_zero}
use Rattle.spec.specs.Challenge.{bit_at, bits_at, index_at, clear_at}
use Rattle.spec.specs.Shapes.{challenge_bytes, shape_ok, depth_of, entries_of, first_bit, hidden_index, grinding_ok}
use Rattle.laws.proofs.Lists.{length-tabulate, get_or-tabulate}
use Rattle.laws.proofs.Numbers.{Digits}
use Rattle.laws.proofs.Digits.{digits_number, number_digits}
use Rattle.laws.proofs.Limbs.{number-below, number-part}
use Rattle.laws.proofs.Words.{same_test}
use Rattle.planning_laws.proofs.Bits.{index-none, index-more}
use Rattle.planning_laws.proofs.Depths.{bit-none, bit-next}
use Rattle.planning_laws.proofs.ShapeFacts.{shape-facts, bit-all, widths}
use Rattle.enumeration_text.specs.Listed.{open_bits, challenge_at}
use Rattle.enumeration_text.specs.Order.{IsChallenge, MixedRadix, Ascending, ListOrder}

-- ---- bits of bytes are bits of the number that they write

bit-of-number : (ch : List ℕ) (b : ℕ) → Digits 8 ch → bit_at ch b ≡ number 8 ch / 2 ^ b % 2
unfolding bit_at
bit-of-number ch b d =
    let place : 8 * (b / 8) + b % 8 ≡ b = omega arith in
    sym (number-part 8 (b % 8) 1 ch (b / 8) (omega arith) d) ∙ ap (λ (n : ℕ). number 8 ch / 2 ^ n % 2) place

index-of-number : (ch : List ℕ) (at n : ℕ) → Digits 8 ch → index_at ch at n ≡ number 8 ch / 2 ^ at % 2 ^ n
index-of-number ch at zero d = sym (index-none ch at 0 refl) ∙ sym (mod-one (number 8 ch / 2 ^ at))
index-of-number ch at (suc n) d =
    index-more ch at n
    ∙ ap₂ (λ (i b : ℕ). 2 * i + b) (index-of-number ch (at + 1) n d) (bit-of-number ch at d)
    ∙ more (number 8 ch) at n
  where
    more : (x at n : ℕ) → 2 * (x / 2 ^ (at + 1) % 2 ^ n) + x / 2 ^ at % 2 ≡ x / 2 ^ at % 2 ^ suc n
    more x at n =
        let q : x / 2 ^ at % 2 ^ (n + 1) ≡ x / 2 ^ at / 2 % 2 ^ n * 2 + x / 2 ^ at % 2 = mod-pow-add (x / 2 ^ at) n 1 in
        let h : x / 2 ^ at / 2 ≡ x / 2 ^ (at + 1) = shr-shr x at 1 in
        sym (ap (λ (m : ℕ). x / 2 ^ at % 2 ^ m) (sym (add-one n)) ∙ q ∙ ap (λ (m : ℕ). m % 2 ^ n * 2 + x / 2 ^ at % 2) h ∙ omega arith)

-- bits are all 0 where their number is
zero_number : (xs : List ℕ) → all_zero xs ≡ eqb (number 1 xs) 0
unfolding all_zero number
zero_number [] = refl
zero_number (zero ∷ xs) = zero_number xs ∙ same_test (number 1 xs) 0 (0 + number 1 xs * 2) 0 (λ e. omega arith) (λ e. omega arith)
zero_number (suc x ∷ xs) = rw (ne_eqb (suc x) 0 (λ e. omega arith)) (sym (ne_eqb (suc x + number 1 xs * 2) 0 (λ e. omega arith)))

clear-of-number : (ch : List ℕ) (at n : ℕ) → Digits 8 ch → clear_at ch at n ≡ eqb (number 8 ch / 2 ^ at % 2 ^ n) 0
unfolding clear_at index_at
clear-of-number ch at n d = zero_number (bits_at ch at n) ∙ ap (λ (m : ℕ). eqb m 0) (index-of-number ch at n d)

-- ---- challenge x

digits-small : (n x : ℕ) → Digits 8 (digits 8 n x)
unfolding digits
digits-small n x i = go (dec_lt i n)
  where
    f : ℕ → ℕ
    f j = x / 2 ^ (8 * j) % 2 ^ 8

    go : Dec (i < n) → get_or (tabulate n f) i 0 < 2 ^ 8
    go (yes h) = rw (get_or-tabulate n f i 0 h) (mod-lt (x / 2 ^ (8 * i)) (omega arith))
    go (no h) = rw (get_or-eq_default (tabulate n f) 0 (let l : length (tabulate n f) ≤ i = omega (arith, length-tabulate n f) in l)) (omega arith)

module _ (s : Shape) (ok : shape_ok s ≡ true) where
  -- the open bits and the grinding bits are all
  open-bits : (first_bit s s.tau ≡ open_bits s) × (s.w + open_bits s ≡ 8 * challenge_bytes s)
  unfolding open_bits
  open-bits = (let f = shape-facts s ok in let b = bit-all s f in let w = widths s f in (omega arith, omega arith))

  at_small : (x : ℕ) → Digits 8 (challenge_at s x)
  unfolding challenge_at
  at_small x = digits-small (challenge_bytes s) _

  at_length : (x : ℕ) → length (challenge_at s x) ≡ challenge_bytes s
  unfolding challenge_at digits
  at_length x = length-tabulate (challenge_bytes s) _

  at-number : (x : ℕ) → x < 2 ^ open_bits s → number 8 (challenge_at s x) ≡ x
  unfolding challenge_at
  at-number x h =
      let l : open_bits s ≤ 8 * challenge_bytes s = omega (arith, open-bits.1) in
      number_digits 8 (challenge_bytes s) x (lt_of_lt_of_le h (pow_mono l))

  clear-bits : (ch : List ℕ) → Digits 8 ch → grinding_ok s ch ≡ eqb (number 8 ch / 2 ^ open_bits s % 2 ^ s.w) 0
  unfolding grinding_ok
  clear-bits ch d = ap (λ (n : ℕ). clear_at ch n s.w) open-bits.0 ∙ clear-of-number ch (open_bits s) s.w d

  allowed : (x : ℕ) → x < 2 ^ open_bits s → grinding_ok s (challenge_at s x) ≡ true
  allowed x h =
      clear-bits (challenge_at s x) (at_small x)
      ∙ rw (at-number x h, div-eq_of_lt h, zero-mod) refl

  found : (ch : List ℕ) → IsChallenge s ch → grinding_ok s ch ≡ true → (x : ℕ) × (x < 2 ^ open_bits s) × (challenge_at s x ≡ ch)
  unfolding challenge_at
  found ch c e =
      let N = number 8 ch in
      let o = open_bits s in
      let size : N < 2 ^ (8 * challenge_bytes s) = number-below 8 (challenge_bytes s) ch c.size c.bytes in
      let all : N < 2 ^ (s.w + o) = subst (λ (n : ℕ). N < 2 ^ n) (sym open-bits.1) size in
      let high : N / 2 ^ o % 2 ^ s.w ≡ 0 = eqb-true _ 0 (sym (clear-bits ch c.bytes) ∙ e) in
      let none : N / 2 ^ o ≡ 0 = sym (mod-eq_of_lt (shr_lt s.w o all)) ∙ high in
      let low = mod-lt N (pow_pos o) in
      let back : N / 2 ^ o * 2 ^ o + N % 2 ^ o ≡ N = split N o in
      let off : N / 2 ^ o * 2 ^ o ≡ 0 * 2 ^ o = ap (λ (n : ℕ). n * 2 ^ o) none in
      (N, omega arith, ap (λ (n : ℕ). digits 8 n N) (sym c.size) ∙ digits_number 8 ch c.bytes)

  once : (x y : ℕ) → x < 2 ^ open_bits s → y < 2 ^ open_bits s → challenge_at s x ≡ challenge_at s y → x ≡ y
  once x y h l e = sym (at-number x h) ∙ ap (number 8) e ∙ at-number y l

  mixed-radix : MixedRadix s
  unfolding hidden_index entries_of
  mixed-radix x i h =
      index-of-number (challenge_at s x) (first_bit s i) (depth_of s i) (at_small x)
      ∙ ap (λ (n : ℕ). n / 2 ^ first_bit s i % 2 ^ depth_of s i) (at-number x h)

-- ---- the order

-- of two numbers with one quotient the larger has the larger remainder
remainder-lt : (a b d : ℕ) → a < b → a / 2 ^ d ≡ b / 2 ^ d → a % 2 ^ d < b % 2 ^ d
remainder-lt a b d h e =
    let p : a / 2 ^ d * 2 ^ d + a % 2 ^ d ≡ a = split a d in
    let q : b / 2 ^ d * 2 ^ d + b % 2 ^ d ≡ b = split b d in
    let r : a / 2 ^ d * 2 ^ d ≡ b / 2 ^ d * 2 ^ d = ap (λ (n : ℕ). n * 2 ^ d) e in
    omega arith

abbrev digit : Shape → ℕ → ℕ → ℕ
digit s x i = x / 2 ^ first_bit s i % entries_of s i

module _ (s : Shape) (x y : ℕ) (less : x < y) where
  -- y is later than x
  abbrev Later : Type 0
  Later = (i : ℕ) × (i < s.tau) × (digit s x i < digit s y i) × ((j : ℕ) → i < j → j < s.tau → digit s x j ≡ digit s y j)

  down : (n : ℕ) → n ≤ s.tau → x / 2 ^ first_bit s n ≡ y / 2 ^ first_bit s n → ((j : ℕ) → n ≤ j → j < s.tau → digit s x j ≡ digit s y j) → Later
  unfolding entries_of
  down zero h e same =
      absurd
      (let z : x / 1 ≡ y / 1 = rw (bit-none s) at e in
      let a = div-one x in
      let b = div-one y in
      omega arith)
  down (suc n) h e same = go (ℕ_discrete (x / 2 ^ first_bit s n) (y / 2 ^ first_bit s n)) (down n)
    where
      go : Dec (x / 2 ^ first_bit s n ≡ y / 2 ^ first_bit s n)
          → (n ≤ s.tau → x / 2 ^ first_bit s n ≡ y / 2 ^ first_bit s n → ((j : ℕ) → n ≤ j → j < s.tau → digit s x j ≡ digit s y j) → Later) → Later
      go (yes q) ih = ih (omega arith) q (λ j l m. at j l m (ℕ_discrete j n))
        where
          at : (j : ℕ) → n ≤ j → j < s.tau → Dec (j ≡ n) → digit s x j ≡ digit s y j
          at j l m (yes z) = rw (z, q) refl
          at j l m (no z) = same j (omega arith) m
      go (no q) ih =
          let d = depth_of s n in
          let a = x / 2 ^ first_bit s n in
          let b = y / 2 ^ first_bit s n in
          let m : a ≤ b = shr_mono (first_bit s n) (let w : x ≤ y = omega arith in w) in
          let l : a < b = lt_of_le-ne m q in
          let next : a / 2 ^ d ≡ b / 2 ^ d =
          shr-shr x (first_bit s n) d ∙ ap (λ (k : ℕ). x / 2 ^ k) (sym (bit-next s n)) ∙ e ∙ ap (λ (k : ℕ). y / 2 ^ k) (bit-next s n) ∙ sym (shr-shr y (first_bit s n) d) in
          (n, omega arith, remainder-lt a b d l next, same)

ascending : (s : Shape) → shape_ok s ≡ true → Ascending s
ascending s ok x y h l =
    let m : x < 2 ^ open_bits s = omega arith in
    let none : (z : ℕ) → z < 2 ^ open_bits s → z / 2 ^ first_bit s s.tau ≡ 0 = λ z k. rw (open-bits s ok).0 (div-eq_of_lt k) in
    let q = down s x y h s.tau (omega arith) (none x m ∙ sym (none y l)) (λ j a b. absurd (omega arith)) in
    let i = q.0 in
    let dx = mixed-radix s ok x in
    let dy = mixed-radix s ok y in
    (i, q.1, rw (dx i m, dy i l) q.2, λ j a b. dx j m ∙ q.3 j a b ∙ sym (dy j l))

pub list-order : ListOrder
list-order =
    record {
      each-once =
          λ s ok. record {
            challenges = λ x. record { size = at_length s ok x; bytes = at_small s ok x };
            allowed = allowed s ok;
            found = found s ok;
            once = once s ok;
          };
      mixed-radix = mixed-radix;
      ascending = ascending;
    }
