-- Tests joined by `&&`, a test that cannot succeed, and one that both succeeds and fails. By the cases of the tests.
use mathlib.Core.Path.{◌≡◌, refl, sym, ◌∙◌}
use mathlib.Core.Bool.{Bool, true, false, ◌&&◌, true≢false}

pub both_true : (a b : Bool) → (a && b) ≡ true → (a ≡ true) × (b ≡ true)
both_true true true e = (refl, refl)
both_true true false e = absurd (true≢false (sym e))
both_true false b e = absurd (true≢false (sym e))

pub and-true : (b : Bool) → b ≡ (b && true)
and-true true = refl
and-true false = refl

pub refuted : (b : Bool) → (b ≡ true → ⊥) → false ≡ b
refuted false h = refl
refuted true h = absurd (h refl)

pub contrary : {A : Type 0} {b : Bool} → b ≡ true → b ≡ false → A
contrary p q = absurd (true≢false (sym p ∙ q))
