-- The table of multiples entry by entry, and a product byte by byte, in the field of 2 ^ w elements modulo m. Entry d follows from its half and its lowest term;
-- a byte more of the second factor is two windows.
use borrow.Author.Count.{below_more}
use mathlib.Core.Path.{◌≡◌, sym, ap, ap₂, ◌∙◌}
use mathlib.Core.List.{List, []}
use Prim.Native.Nat.{ℕ, suc, ◌+◌, ◌-◌, ◌*◌, ◌/◌, ◌%◌, ◌^◌, ◌≤◌, ◌<◌}
use native.Mathlib.Nat.{ne_of_lt, sub-zero, lt_of_lt_of_le, pow-suc}
use native.Mathlib.Omega.{arith}
use lib.Bits.{bit_xor}
use lib.Pow.{pow_mono}
use lib.ListN.{length, get_or, set, drop, length-set}
use lib.Seq.{get_or-set_same, get_or-set_other, drop-cons, drop-length}
use Rattle.spec.specs.Bytes.{number}
use Rattle.spec.specs.Polynomials.{remainder, field_product}
use Rattle.laws.proofs.Xor.{digit-cases}
use Rattle.laws.proofs.FieldProduct.{field_lt, field-zero, field-one, field-half, field-byte}
use Rattle.field.specs.Fields.{FieldLaws}
use Rattle.field.specs.Multiples.{Multiples}

-- the entries of t below d are those of x
abbrev pub Entries : ℕ → ℕ → ℕ → List (List ℕ) → ℕ → Type 0
Entries w m x t d = (length t ≡ 16) × ((k : ℕ) → k < d → number 64 (get_or t k []) ≡ field_product w m 4 x k)

-- r is the product with the bytes of s from j on
abbrev pub Multiplied : ℕ → ℕ → List (List ℕ) → List ℕ → List ℕ → ℕ → Type 0
Multiplied w m t s r j = (x : ℕ) → Multiples w m x t → number 64 r ≡ field_product w m (8 * (length s - j)) x (number 8 (drop j s))

-- the polynomial of a field has its degree
at-least : {n w m low : ℕ} → FieldLaws n w m low → 2 ^ w ≤ m
at-least f = (let e = f.polynomial in omega arith)

below-double : {n w m low : ℕ} → FieldLaws n w m low → m < 2 ^ suc w
below-double {n} {w} {m} {low} f =
    let e = f.polynomial in
    let some : 20 ≤ w = (let a = f.some in let b = f.width in omega arith) in
    let fits : low < 2 ^ w = lt_of_lt_of_le f.small (pow_mono some) in
    let next = pow-suc 2 w in
    omega arith

module _ {n w m low : ℕ} (f : FieldLaws n w m low) where
  pub entries-first : (x : ℕ) (t : List (List ℕ)) → x < 2 ^ w → length t ≡ 16 → number 64 (get_or t 0 []) ≡ 0 → number 64 (get_or t 1 []) ≡ x → Entries w m x t 2
  entries-first x t hx l e0 e1 = (
    l,
    digit-cases (λ (k : ℕ). number 64 (get_or t k []) ≡ field_product w m 4 x k) (e0 ∙ sym (field-zero w m (at-least f) (below-double f) x hx 4)) (e1 ∙ sym (field-one w m (at-least f) (below-double f) x hx 3)),
  )

  -- a is alpha times the half, v the sum of it and the entry of the lowest term; both entries fit the width
  pub entries_next : (x : ℕ) (t : List (List ℕ)) (d : ℕ) (a v : List ℕ) → x < 2 ^ w → 2 ≤ d → d < 16
      → (number 64 (get_or t (d / 2) []) < 2 ^ w → number 64 a ≡ remainder w m 1 (number 64 (get_or t (d / 2) []) * 2 ^ 1))
      → (number 64 (get_or t (d % 2) []) < 2 ^ w → number 64 v ≡ bit_xor (number 64 a) (number 64 (get_or t (d % 2) []))) → Entries w m x t d
      → Entries w m x (set t d v) (d + 1)
  entries_next x t d a v hx two h ea ev j = (
    simp length-set j.0,
    below_more (λ (k : ℕ). number 64 (get_or (set t d v) k []) ≡ field_product w m 4 x k) d
        (λ k h. ap (number 64) (get_or-set_other t d k v [] (ne_of_lt h)) ∙ j.1 k h)
        (ap (number 64) (get_or-set_same t d v [] (omega arith))
        ∙ ev (rw (j.1 (d % 2) (omega arith)) (field_lt w m (at-least f) (below-double f) x hx 4 (d % 2)))
        ∙ ap₂ bit_xor (ea (rw (j.1 (d / 2) (omega arith)) (field_lt w m (at-least f) (below-double f) x hx 4 (d / 2))) ∙ ap (λ (b : ℕ). remainder w m 1 (b * 2 ^ 1)) (j.1 (d / 2) (omega arith)))
        (j.1 (d % 2) (omega arith))
        ∙ field-half w m (at-least f) (below-double f) x hx 3 d (omega arith)),
  )

  pub multiplied-none : (t : List (List ℕ)) (s r : List ℕ) → number 64 r ≡ 0 → Multiplied w m t s r (length s)
  unfolding number
  multiplied-none t s r e =
      let n = 8 * (length s - length s) in
      λ x h. e ∙ sym (ap (λ (l : List ℕ). field_product w m n x (number 8 l)) (drop-length s) ∙ field-zero w m (at-least f) (below-double f) x h.degree n)

  -- b is the byte before those; a and `after` are the two windows, of entries that fit the width
  pub multiplied-next : (t : List (List ℕ)) (s r a after : List ℕ) (j : ℕ) → 0 < j → j ≤ length s → let b = get_or s (j - 1) 0 in b < 256
      → (number 64 (get_or t (b / 16) []) < 2 ^ w → number 64 a ≡ bit_xor (remainder w m 4 (number 64 r * 2 ^ 4)) (number 64 (get_or t (b / 16) [])))
      → (number 64 (get_or t (b % 16) []) < 2 ^ w → number 64 after ≡ bit_xor (remainder w m 4 (number 64 a * 2 ^ 4)) (number 64 (get_or t (b % 16) []))) → Multiplied w m t s r j
      → Multiplied w m t s after (j - 1)
  unfolding number
  multiplied-next t s r a after j some within hb ea er p =
      let i = j - 1 in
      let b = get_or s i 0 in
      let q = number 8 (drop j s) in
      let n = 8 * (length s - j) in
      let top : b / 16 < 16 = omega arith in
      let bottom : b % 16 < 16 = omega arith in
      let count : 4 + (4 + n) ≡ 8 * (length s - i) = omega arith in
      let value : b + q * 2 ^ 8 ≡ number 8 (drop i s) =
      ap (λ (k : ℕ). b + number 8 (drop k s) * 2 ^ 8) (let z : j ≡ suc i = omega arith in z) ∙ sym (ap (number 8) (drop-cons s i 0 (omega arith))) in
      let step : ℕ → ℕ → ℕ = λ a e. bit_xor (remainder w m 4 (a * 2 ^ 4)) e in
      λ x h.
      let small : (d : ℕ) → d < 16 → number 64 (get_or t d []) < 2 ^ w = λ d l. rw (h.entry d l) (field_lt w m (at-least f) (below-double f) x h.degree 4 d) in
      er (small (b % 16) bottom)
      ∙ ap₂ step (ea (small (b / 16) top) ∙ ap₂ step (p x h) (h.entry (b / 16) top)) (h.entry (b % 16) bottom)
      ∙ field-byte w m (at-least f) (below-double f) x h.degree n q b hb
      ∙ ap₂ (λ (k v : ℕ). field_product w m k x v) count value

  pub multiplied-all : (t : List (List ℕ)) (s r : List ℕ) (j : ℕ) → j ≡ 0 → Multiplied w m t s r j
      → (x : ℕ) → Multiples w m x t → number 64 r ≡ field_product w m (8 * length s) x (number 8 s)
  multiplied-all t s r j e p = rw (e, sub-zero) at p
