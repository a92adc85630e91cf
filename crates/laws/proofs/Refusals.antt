-- The first test that fails, in a list of tests and in two: by the cases of the tests.
use Prim.Native.Nat.{ℕ}
use mathlib.Core.Path.{◌≡◌, refl, sym, ap, ◌∙◌}
use mathlib.Core.Bool.{Bool, true, false, cond, true≢false}
use mathlib.Core.List.{List, [], ◌∷◌, ◌++◌}
use lib.Dec.{eqb}
use borrow.Author.Tests.{eq-eqb}
use Rattle.spec.specs.Calls.{first_refusal}

-- no test has the number 0; every test is passed
abbrev pub Numbered : List (Bool × ℕ) → Type 0
Numbered [] = Unit {0}
Numbered (t ∷ ts) = (eqb t.1 0 ≡ false) × Numbered ts

abbrev pub Passed : List (Bool × ℕ) → Type 0
Passed [] = Unit {0}
Passed (t ∷ ts) = (t.0 ≡ true) × Passed ts

pub none-failed : (ts : List (Bool × ℕ)) → Numbered ts → first_refusal ts ≡ 0 → Passed ts
none-failed [] n h = tt
none-failed ((true, k) ∷ ts) n h = (refl, none-failed ts n.1 h)
none-failed ((false, k) ∷ ts) n h = absurd (true≢false (sym (eq-eqb k 0 h) ∙ n.0))

pub all-passed : (ts : List (Bool × ℕ)) → Passed ts → first_refusal ts ≡ 0
all-passed [] p = refl
all-passed (t ∷ ts) p = ap (λ (a : Bool). cond a (first_refusal ts) t.1) p.0 ∙ all-passed ts p.1

-- where the first tests are passed the others decide, and else the first do
pub then : (ts us : List (Bool × ℕ)) → Numbered ts → first_refusal (ts ++ us) ≡ cond (eqb (first_refusal ts) 0) (first_refusal us) (first_refusal ts)
then [] us n = refl
then ((true, k) ∷ ts) us n = then ts us n.1
then ((false, k) ∷ ts) us n = sym (ap (λ (a : Bool). cond a (first_refusal us) k) n.0)
