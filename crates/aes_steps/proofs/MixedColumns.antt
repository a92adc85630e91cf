-- MIXCOLUMNS as the code has it: {02} times the sum of two bytes next to each other, plus the three other bytes.
use mathlib.Core.Path.{◌≡◌, ap, ap₂, ◌∙◌}
use mathlib.Core.List.{List, [], ◌∷◌}
use Prim.Native.Nat.{ℕ, ◌<◌}
use lib.Bits.{bit_xor, xor_comm}
use lib.ListN.{get_or}
use Rattle.spec.specs.Bytes.{digits}
use Rattle.spec.specs.Gf256.{mul}
use Rattle.spec.specs.Aes.{xor_word, rot_word, sum4, mix_column}
use Rattle.aes_steps.specs.PackedWords.{xtimes_word}
use Rattle.laws.proofs.Numbers.{Digits}
use Rattle.laws.proofs.Xor.{xor_assoc}
use Rattle.aes_steps.proofs.Xtimes.{triple-is, double-xor}
use Rattle.aes_steps.proofs.PackedWords.{packed-xor}

sum4-turned : (p q r s : ℕ) → sum4 p q r s ≡ sum4 s p q r
sum4-turned p q r s = xor_comm (bit_xor (bit_xor p q) r) s ∙ simp xor_assoc

byte-is : (p q r s : ℕ) → p < 256 → q < 256 → bit_xor (mul 2 (bit_xor p q)) (bit_xor q (bit_xor r s)) ≡ sum4 (mul 2 p) (mul 3 q) r s
byte-is p q r s hp hq = rw (double-xor p q hp hq, triple-is q hq) (simp xor_assoc)

same_word : {a b c d p q r s : ℕ} → a ≡ p → b ≡ q → c ≡ r → d ≡ s → ◌≡◌ {A = List ℕ} (a ∷ b ∷ c ∷ d ∷ []) (p ∷ q ∷ r ∷ s ∷ [])
same_word h1 h2 h3 h4 = cc

mixed-is : (a : List ℕ) → Digits 8 a → xor_word (xtimes_word (xor_word a (rot_word a))) (rot_word (xor_word a (rot_word (xor_word a (rot_word a))))) ≡ mix_column a
unfolding xor_word mix_column
mixed-is l h =
    let a = get_or l 0 0 in
    let b = get_or l 1 0 in
    let c = get_or l 2 0 in
    let d = get_or l 3 0 in
    same_word (byte-is a b c d (h 0) (h 1))
    (byte-is b c d a (h 1) (h 2) ∙ sum4-turned (mul 2 b) (mul 3 c) d a)
    (byte-is c d a b (h 2) (h 3) ∙ sum4-turned (mul 2 c) (mul 3 d) a b ∙ sum4-turned b (mul 2 c) (mul 3 d) a)
    (byte-is d a b c (h 3) (h 0) ∙ sum4-turned (mul 2 d) (mul 3 a) b c ∙ sum4-turned c (mul 2 d) (mul 3 a) b ∙ sum4-turned b c (mul 2 d) (mul 3 a))

-- the column w, the sum u of w and w turned by one byte (v), {02} • u (x), u turned (y), and the sum of w and y turned (z)
pub mix-packed : (a : List ℕ) (w v x y z : ℕ) → Digits 8 a → digits 8 4 w ≡ a → digits 8 4 v ≡ rot_word (digits 8 4 w)
    → digits 8 4 x ≡ xtimes_word (digits 8 4 (bit_xor w v)) → digits 8 4 y ≡ rot_word (digits 8 4 (bit_xor w v))
    → digits 8 4 z ≡ rot_word (digits 8 4 (bit_xor w y)) → digits 8 4 (bit_xor x z) ≡ mix_column a
mix-packed a w v x y z h ew ev ex ey ez =
    let eu : digits 8 4 (bit_xor w v) ≡ xor_word a (rot_word a) = packed-xor w v ∙ ap₂ xor_word ew (ev ∙ ap rot_word ew) in
    packed-xor x z
    ∙ ap₂ xor_word (ex ∙ ap xtimes_word eu) (ez ∙ ap rot_word (packed-xor w y ∙ ap₂ xor_word ew (ey ∙ ap rot_word eu)))
    ∙ mixed-is a h
