-- Four bytes packed into one number: what a step on the number does to the bytes. The masks and the bits that move are taken byte by byte.
use mathlib.Core.Path.{◌≡◌, refl, sym, ap, ◌∙◌}
use mathlib.Core.Bool.{Bool}
use mathlib.Core.List.{List, [], ◌∷◌}
use Prim.Native.Nat.{ℕ, zero, suc, ◌+◌, ◌*◌, ◌/◌, ◌%◌, ◌^◌, ◌<◌}
use native.Mathlib.Nat.{mod-eq_of_lt}
use native.Mathlib.Omega.{arith}
use lib.Bits.{bit_xor, bit_or, bit_and, xor_block, and_block, or_shifted_r}
use lib.Dec.{eqb, eqb→eq}
use lib.ListN.{length, get_or}
use Rattle.spec.specs.Bytes.{tabulate, number, digits}
use Rattle.spec.specs.Gf256.{mul}
use Rattle.spec.specs.Aes.{xor_word, rot_word}
use Rattle.aes_steps.specs.PackedWords.{xtimes_word}
use Rattle.laws.proofs.Digits.{digits_number, number_digits, digits-xor}
use Rattle.laws.proofs.Lists.{length-tabulate}
use Rattle.laws.proofs.Numbers.{Digits}
use Rattle.laws.proofs.Tables.{at-below}
use Rattle.aes_steps.proofs.Xtimes.{double-is, double-lt}

abbrev packed : ℕ → ℕ → ℕ → ℕ → ℕ
packed a b c d = ((d * 256 + c) * 256 + b) * 256 + a

pub number_word : (a : List ℕ) → length a ≡ 4 → number 8 a ≡ packed (get_or a 0 0) (get_or a 1 0) (get_or a 2 0) (get_or a 3 0)
unfolding number
number_word [] h = absurd (omega arith)
number_word (x ∷ []) h = absurd (omega arith)
number_word (x ∷ y ∷ []) h = absurd (omega arith)
number_word (x ∷ y ∷ z ∷ []) h = absurd (omega arith)
number_word (x ∷ y ∷ z ∷ t ∷ []) h = omega arith
number_word (x ∷ y ∷ z ∷ t ∷ u ∷ us) h = absurd (omega arith)

pub packed-word : (a : List ℕ) (w : ℕ) → length a ≡ 4 → Digits 8 a → w ≡ number 8 a → digits 8 4 w ≡ a
packed-word a w e h ew = ap (digits 8 4) ew ∙ ap (λ (n : ℕ). digits 8 n (number 8 a)) (sym e) ∙ digits_number 8 a h

pub packed-xor : (x y : ℕ) → digits 8 4 (bit_xor x y) ≡ xor_word (digits 8 4 x) (digits 8 4 y)
unfolding tabulate digits xor_word
packed-xor x y = digits-xor 8 4 x y

-- ---- a step on the number as a step on its bytes

module _ (op : ℕ → ℕ → ℕ)
    (block : (k a b r s : ℕ) → r < 2 ^ k → s < 2 ^ k → op (a * 2 ^ k + r) (b * 2 ^ k + s) ≡ op a b * 2 ^ k + op r s) where
  by_byte : (a b c d p q r s : ℕ) → a < 256 → b < 256 → c < 256 → p < 256 → q < 256 → r < 256
      → op (packed a b c d) (packed p q r s) ≡ packed (op a p) (op b q) (op c r) (op d s)
  by_byte a b c d p q r s ha hb hc hp hq hr =
      block 8 ((d * 256 + c) * 256 + b) ((s * 256 + r) * 256 + q) a p ha hp
      ∙ ap (λ (x : ℕ). x * 256 + op a p)
      (block 8 (d * 256 + c) (s * 256 + r) b q hb hq ∙ ap (λ (x : ℕ). x * 256 + op b q) (block 8 d s c r hc hr))

masked_low : ℕ → Bool
masked_low k = eqb (bit_and k 127) (k % 128)

low_bits : (k : ℕ) → k < 256 → bit_and k 127 ≡ k % 128
unfolding masked_low
low_bits k h = eqb→eq (bit_and k 127) (k % 128) (at-below masked_low 256 tt k h)

masked-high : ℕ → Bool
masked-high k = eqb (bit_and k 128) (k / 128 * 128)

high_bit : (k : ℕ) → k < 256 → bit_and k 128 ≡ k / 128 * 128
unfolding masked-high
high_bit k h = eqb→eq (bit_and k 128) (k / 128 * 128) (at-below masked-high 256 tt k h)

doubled : (p q r s : ℕ) → p < 128 → q < 128 → r < 128 → s < 128 → packed p q r s * 2 % 4294967296 ≡ packed (p * 2) (q * 2) (r * 2) (s * 2)
doubled p q r s hp hq hr hs =
    let l : packed p q r s * 2 < 4294967296 = omega arith in
    mod-eq_of_lt l ∙ omega arith

module _ (a b c d : ℕ) (ha : a < 256) (hb : b < 256) (hc : c < 256) (hd : d < 256) where
  low-bits-moved : bit_and (packed a b c d) 0x7f7f7f7f * 2 % 4294967296 ≡ packed (a % 128 * 2) (b % 128 * 2) (c % 128 * 2) (d % 128 * 2)
  low-bits-moved =
      let e : bit_and (packed a b c d) 0x7f7f7f7f ≡ packed (bit_and a 127) (bit_and b 127) (bit_and c 127) (bit_and d 127) =
      by_byte bit_and and_block a b c d 127 127 127 127 ha hb hc (omega arith) (omega arith) (omega arith) in
      ap (λ (x : ℕ). x * 2 % 4294967296) (e ∙ rw (low_bits a ha, low_bits b hb, low_bits c hc, low_bits d hd))
      ∙ doubled (a % 128) (b % 128) (c % 128) (d % 128) (omega arith) (omega arith) (omega arith) (omega arith)

  high-bits-spread : bit_and (packed a b c d) 0x80808080 / 128 * 27 ≡ packed (a / 128 * 27) (b / 128 * 27) (c / 128 * 27) (d / 128 * 27)
  high-bits-spread =
      let e : bit_and (packed a b c d) 0x80808080 ≡ packed (bit_and a 128) (bit_and b 128) (bit_and c 128) (bit_and d 128) =
      by_byte bit_and and_block a b c d 128 128 128 128 ha hb hc (omega arith) (omega arith) (omega arith) in
      omega (arith, e, high_bit a ha, high_bit b hb, high_bit c hc, high_bit d hd)

  xtimes-bytes : bit_xor (bit_and (packed a b c d) 0x7f7f7f7f * 2 % 4294967296) (bit_and (packed a b c d) 0x80808080 / 128 * 27)
      ≡ packed (mul 2 a) (mul 2 b) (mul 2 c) (mul 2 d)
  xtimes-bytes =
      rw (low-bits-moved, high-bits-spread, double-is a ha, double-is b hb, double-is c hc, double-is d hd)
      (by_byte bit_xor xor_block (a % 128 * 2) (b % 128 * 2) (c % 128 * 2) (d % 128 * 2) (a / 128 * 27) (b / 128 * 27) (c / 128 * 27) (d / 128 * 27)
      (omega arith) (omega arith) (omega arith) (omega arith) (omega arith) (omega arith))

  rot-bytes : bit_or (packed a b c d / 256) (packed a b c d * 16777216 % 4294967296) ≡ packed b c d a
  rot-bytes =
      let m : packed a b c d / 256 ≡ (d * 256 + c) * 256 + b = omega arith in
      let n : packed a b c d * 16777216 % 4294967296 ≡ a * 16777216 = omega arith in
      rw (m, n) (or_shifted_r a 24 ((d * 256 + c) * 256 + b) (omega arith) ∙ omega arith)

  digits-packed : digits 8 4 (packed a b c d) ≡ a ∷ b ∷ c ∷ d ∷ []
  digits-packed = packed-word (a ∷ b ∷ c ∷ d ∷ []) (packed a b c d) refl bytes (sym (number_word (a ∷ b ∷ c ∷ d ∷ []) refl))
    where
      bytes : Digits 8 (a ∷ b ∷ c ∷ d ∷ [])
      bytes zero = ha
      bytes (suc zero) = hb
      bytes (suc (suc zero)) = hc
      bytes (suc (suc (suc zero))) = hd
      bytes (suc (suc (suc (suc i)))) = omega arith

-- ---- the same for any number of 32 bits

module _ (w : ℕ) (h : w < 2 ^ 32) where
  byte : ℕ → ℕ
  byte i = get_or (digits 8 4 w) i 0

  byte-lt : (i : ℕ) → byte i < 256
  unfolding tabulate digits byte
  byte-lt zero = omega arith
  byte-lt (suc zero) = omega arith
  byte-lt (suc (suc zero)) = omega arith
  byte-lt (suc (suc (suc zero))) = omega arith
  byte-lt (suc (suc (suc (suc i)))) = omega arith

  from_bytes : w ≡ packed (byte 0) (byte 1) (byte 2) (byte 3)
  unfolding digits byte
  from_bytes = sym (number_digits 8 4 w h) ∙ number_word (digits 8 4 w) (length-tabulate 4 (λ i. w / 2 ^ (8 * i) % 2 ^ 8))

  pub packed-xtimes : digits 8 4 (bit_xor (bit_and w 0x7f7f7f7f * 2 % 4294967296) (bit_and w 0x80808080 / 128 * 27)) ≡ xtimes_word (digits 8 4 w)
  unfolding byte
  packed-xtimes =
      ap (λ (x : ℕ). digits 8 4 (bit_xor (bit_and x 0x7f7f7f7f * 2 % 4294967296) (bit_and x 0x80808080 / 128 * 27))) from_bytes
      ∙ ap (digits 8 4) (xtimes-bytes (byte 0) (byte 1) (byte 2) (byte 3) (byte-lt 0) (byte-lt 1) (byte-lt 2) (byte-lt 3))
      ∙ digits-packed (mul 2 (byte 0)) (mul 2 (byte 1)) (mul 2 (byte 2)) (mul 2 (byte 3)) (double-lt (byte 0) (byte-lt 0)) (double-lt (byte 1) (byte-lt 1))
      (double-lt (byte 2) (byte-lt 2)) (double-lt (byte 3) (byte-lt 3))

  pub packed-rot : digits 8 4 (bit_or (w / 256) (w * 16777216 % 4294967296)) ≡ rot_word (digits 8 4 w)
  unfolding byte
  packed-rot =
      ap (λ (x : ℕ). digits 8 4 (bit_or (x / 256) (x * 16777216 % 4294967296))) from_bytes
      ∙ ap (digits 8 4) (rot-bytes (byte 0) (byte 1) (byte 2) (byte 3) (byte-lt 0) (byte-lt 1) (byte-lt 2) (byte-lt 3))
      ∙ digits-packed (byte 1) (byte 2) (byte 3) (byte 0) (byte-lt 1) (byte-lt 2) (byte-lt 3) (byte-lt 0)
