-- Sums over lines that are given by a rule: one line more at the end, and two rules that agree. By induction on the lines.
use Prim.Native.Nat.{ℕ, zero, suc, ◌+◌}
use mathlib.Core.Path.{◌≡◌, refl, ap₂}
use native.Mathlib.Omega.{arith}
use Rattle.spec.specs.Bytes.{tabulate}
use Rattle.enumeration_text.specs.Listed.{Listed, sum_of}

pub sum_more : (f : Listed → ℕ) (n : ℕ) (g : ℕ → Listed) → sum_of f (tabulate (suc n) g) ≡ sum_of f (tabulate n g) + f (g n)
unfolding tabulate sum_of
sum_more f zero g = omega arith
sum_more f (suc n) g = (let ih = sum_more f n (λ i. g (suc i)) in omega arith)

pub sum_same : (f g : Listed → ℕ) (n : ℕ) (h : ℕ → Listed) → ((i : ℕ) → f (h i) ≡ g (h i)) → sum_of f (tabulate n h) ≡ sum_of g (tabulate n h)
unfolding tabulate sum_of
sum_same f g zero h e = refl
sum_same f g (suc n) h e = ap₂ ◌+◌ (e 0) (sum_same f g n (λ i. h (suc i)) (λ i. e (suc i)))
