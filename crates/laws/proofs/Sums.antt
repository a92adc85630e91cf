-- The xor of a run of numbers: with equal members, and of a run in two parts. By induction on the run.
use mathlib.Core.Path.{◌≡◌, refl, sym, ap, ap₂, ◌∙◌}
use Prim.Native.Nat.{ℕ, zero, suc, ◌+◌, ◌<◌}
use native.Mathlib.Nat.{add-zero, add-suc}
use native.Mathlib.Omega.{arith}
use lib.Bits.{bit_xor, xor_zero_r}
use Rattle.spec.specs.Bytes.{xor_below}
use Rattle.laws.proofs.Xor.{xor_assoc}

pub xor_same : (n : ℕ) (f g : ℕ → ℕ) → ((e : ℕ) → e < n → f e ≡ g e) → xor_below n f ≡ xor_below n g
unfolding xor_below
xor_same zero f g h = refl
xor_same (suc n) f g h = ap₂ bit_xor (xor_same n f g (λ e l. h e (omega arith))) (h n (omega arith))

pub xor-append : (m n : ℕ) (f : ℕ → ℕ) → xor_below (m + n) f ≡ bit_xor (xor_below m f) (xor_below n (λ i. f (m + i)))
unfolding xor_below
xor-append m zero f = ap (λ (k : ℕ). xor_below k f) (add-zero m) ∙ sym (xor_zero_r (xor_below m f))
xor-append m (suc n) f =
    ap (λ (k : ℕ). xor_below k f) (add-suc m n)
    ∙ ap (λ (x : ℕ). bit_xor x (f (m + n))) (xor-append m n f)
    ∙ xor_assoc (xor_below m f) (xor_below n (λ i. f (m + i))) (f (m + n))
