-- The column rule at one byte: `row e` is that byte of the row of entry e, n the number of entries. A column numbered by e xor the hidden index differs from
-- one numbered by e by the hidden index's bit times the sum of all rows. By the laws of xor.
use mathlib.Core.Path.{◌≡◌, refl, sym, ap, ap₂, ◌∙◌}
use Prim.Native.Nat.{ℕ, zero, suc, ◌*◌, ◌<◌}
use native.Mathlib.Nat.{zero-mul, mul-zero}
use native.Mathlib.Decide.{ℕ_discrete}
use lib.Bits.{bit_xor, xor_self, xor_comm}
use Rattle.spec.specs.Bytes.{bit, xor_below}
use Rattle.laws.proofs.Digits.{bit-lt}
use Rattle.laws.proofs.Xor.{xor_assoc, xor-swap, xor-cancel-r, digit-xor, differ-mul}
use Rattle.laws.proofs.Sums.{xor_same}
use Rattle.laws.proofs.Running.{bit-zero, bit-xor}

-- ---- the xor of a run

xor-both : (n : ℕ) (f g : ℕ → ℕ) → xor_below n (λ e. bit_xor (f e) (g e)) ≡ bit_xor (xor_below n f) (xor_below n g)
unfolding xor_below
xor-both zero f g = refl
xor-both (suc n) f g = ap (λ (x : ℕ). bit_xor x (bit_xor (f n) (g n))) (xor-both n f g) ∙ xor-swap (xor_below n f) (xor_below n g) (f n) (g n)

xor-digit : (d n : ℕ) (f : ℕ → ℕ) → d < 2 → xor_below n (λ e. d * f e) ≡ d * xor_below n f
unfolding xor_below
xor-digit d zero f h = sym (mul-zero d)
xor-digit d (suc n) f h = ap (λ (x : ℕ). bit_xor x (d * f n)) (xor-digit d n f h) ∙ sym (digit-xor d (xor_below n f) (f n) h)

pub hidden-column : (n : ℕ) (row : ℕ → ℕ) (hidden j : ℕ)
    → xor_below n (λ e. bit j (bit_xor e hidden) * row e) ≡ bit_xor (xor_below n (λ e. bit j e * row e)) (bit j hidden * xor_below n row)
hidden-column n row hidden j =
    xor_same n (λ e. bit j (bit_xor e hidden) * row e) (λ e. bit_xor (bit j e * row e) (bit j hidden * row e))
    (λ e l. ap (λ (d : ℕ). d * row e) (bit-xor j e hidden) ∙ differ-mul (bit j e) (bit j hidden) (row e) (bit-lt j e) (bit-lt j hidden))
    ∙ xor-both n (λ e. bit j e * row e) (λ e. bit j hidden * row e)
    ∙ ap (bit_xor (xor_below n (λ e. bit j e * row e))) (xor-digit (bit j hidden) n row (bit-lt j hidden))

-- the hidden entry's row is not looked at
pub hidden-unused : (n : ℕ) (row other : ℕ → ℕ) (hidden j : ℕ) → ((e : ℕ) → e < n → (e ≡ hidden → ⊥) → row e ≡ other e)
    → xor_below n (λ e. bit j (bit_xor e hidden) * row e) ≡ xor_below n (λ e. bit j (bit_xor e hidden) * other e)
hidden-unused n row other hidden j h =
    xor_same n (λ e. bit j (bit_xor e hidden) * row e) (λ e. bit j (bit_xor e hidden) * other e) (λ e l. go e l (ℕ_discrete e hidden))
  where
    none : (x : ℕ) → bit j (bit_xor hidden hidden) * x ≡ 0
    none x = ap (λ (n : ℕ). bit j n * x) (xor_self hidden) ∙ ap (λ (n : ℕ). n * x) (bit-zero j) ∙ zero-mul x

    go : (e : ℕ) → e < n → Dec (e ≡ hidden) → bit j (bit_xor e hidden) * row e ≡ bit j (bit_xor e hidden) * other e
    go e l (yes q) =
        ap (λ (n : ℕ). bit j (bit_xor n hidden) * row e) q ∙ none (row e) ∙ sym (none (other e)) ∙ ap (λ (n : ℕ). bit j (bit_xor n hidden) * other e) (sym q)
    go e l (no q) = ap (λ (n : ℕ). bit j (bit_xor e hidden) * n) (h e l q)

-- with the correction xored in where the bit is 1
pub corrected-column : (n : ℕ) (row : ℕ → ℕ) (u₀ hidden j : ℕ)
    → bit_xor (xor_below n (λ e. bit j (bit_xor e hidden) * row e)) (bit j hidden * bit_xor u₀ (xor_below n row))
    ≡ bit_xor (xor_below n (λ e. bit j e * row e)) (bit j hidden * u₀)
corrected-column n row u₀ hidden j =
    let v = xor_below n (λ e. bit j e * row e) in
    let u = xor_below n row in
    let d = bit j hidden in
    ap₂ bit_xor (hidden-column n row hidden j) (digit-xor d u₀ u (bit-lt j hidden))
    ∙ xor_assoc v (d * u) (bit_xor (d * u₀) (d * u))
    ∙ ap (bit_xor v) (xor_comm (d * u) (bit_xor (d * u₀) (d * u)) ∙ xor-cancel-r (d * u₀) (d * u))
