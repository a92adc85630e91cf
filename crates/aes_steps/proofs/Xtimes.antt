-- Products with {02} and {03} in GF(2^8). What concerns one byte is computed at all 256; from the rule for {02}, that it is additive.
use mathlib.Core.Path.{◌≡◌, refl, sym, ap, ap₂, ◌∙◌}
use mathlib.Core.Bool.{Bool}
use Prim.Native.Nat.{ℕ, suc, ◌*◌, ◌/◌, ◌%◌, ◌<◌}
use native.Mathlib.Nat.{add-zero}
use native.Mathlib.Omega.{arith}
use lib.Bits.{bit_xor, xor_block, xor_lt, xor_shr, xor_mod}
use lib.Dec.{eqb, eqb→eq, ltb, leb→le}
use Rattle.spec.specs.Polynomials.{product, remainder, field_product}
use Rattle.spec.specs.Gf256.{mul}
use Rattle.laws.proofs.Tables.{at-below}
use Rattle.laws.proofs.Xor.{digit-cases, xor-swap}

doubles : ℕ → Bool
doubles k = eqb (mul 2 k) (bit_xor (k % 128 * 2) (k / 128 * 27))

-- seven bits go up by one place, and the eighth brings in {1b}
pub double-is : (k : ℕ) → k < 256 → mul 2 k ≡ bit_xor (k % 128 * 2) (k / 128 * 27)
unfolding doubles product remainder field_product mul
double-is k h = eqb→eq (mul 2 k) (bit_xor (k % 128 * 2) (k / 128 * 27)) (at-below doubles 256 tt k h)

triples : ℕ → Bool
triples k = eqb (mul 3 k) (bit_xor (mul 2 k) k)

pub triple-is : (k : ℕ) → k < 256 → mul 3 k ≡ bit_xor (mul 2 k) k
unfolding triples product remainder field_product mul
triple-is k h = eqb→eq (mul 3 k) (bit_xor (mul 2 k) k) (at-below triples 256 tt k h)

fits : ℕ → Bool
fits k = ltb (mul 2 k) 256

pub double-lt : (k : ℕ) → k < 256 → mul 2 k < 256
unfolding fits product remainder field_product mul
double-lt k h = leb→le (suc (mul 2 k)) 256 (at-below fits 256 tt k h)

-- a multiple of a xor of two digits
digit-sum : (d e : ℕ) → d < 2 → e < 2 → bit_xor d e * 27 ≡ bit_xor (d * 27) (e * 27)
digit-sum d e hd he =
    digit-cases (λ (d : ℕ). bit_xor d e * 27 ≡ bit_xor (d * 27) (e * 27)) refl
    (digit-cases (λ (e : ℕ). bit_xor 1 e * 27 ≡ bit_xor 27 (e * 27)) refl refl e he) d hd

pub double-xor : (a b : ℕ) → a < 256 → b < 256 → mul 2 (bit_xor a b) ≡ bit_xor (mul 2 a) (mul 2 b)
double-xor a b ha hb =
    double-is (bit_xor a b) (xor_lt 8 a b ha hb)
    ∙ ap₂ bit_xor
    (ap (λ (x : ℕ). x * 2) (xor_mod a b 7) ∙ sym (simp add-zero at (xor_block 1 (a % 128) (b % 128) 0 0 (omega arith) (omega arith))))
    (ap (λ (x : ℕ). x * 27) (xor_shr a b 7) ∙ digit-sum (a / 128) (b / 128) (omega arith) (omega arith))
    ∙ xor-swap (a % 128 * 2) (b % 128 * 2) (a / 128 * 27) (b / 128 * 27)
    ∙ sym (ap₂ bit_xor (double-is a ha) (double-is b hb))
