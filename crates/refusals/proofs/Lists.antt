-- One list of tests behind another, for a number and for an answer: where the first list refuses its number stands, and else the second decides. By the cases of the
-- tests.
use Prim.Native.Nat.{ℕ}
use mathlib.Core.Path.{◌≡◌, refl, sym, ap, ◌∙◌}
use mathlib.Core.Bool.{Bool, true, false, cond}
use mathlib.Core.List.{List, [], ◌∷◌, ◌++◌}
use borrow.Author.Tests.{ne_eqb}
use Rattle.spec.specs.declared.Answer.{Answer}
use Rattle.spec.specs.Calls.{first_refusal, count_given, count_with}
use Rattle.laws.proofs.Refusals.{Numbered, Passed, none-failed, then}
use Rattle.std.specs.Prelude.{Err}
use Rattle.refusals.specs.declared.Refusal.{Refusal}
use Rattle.refusals.specs.Numbers.{Answered}
use Rattle.refusals.specs.Refusal.{number_of, count_of, answer_in}
use Rattle.refusals.proofs.Outcomes.{numbered, uncounted}

-- no test has a number that goes with a count
abbrev pub Uncounted : List (Bool × ℕ) → Type 0
Uncounted [] = Unit {0}
Uncounted (t ∷ ts) = (count_given t.1 ≡ false) × Uncounted ts

no-count : (ts : List (Bool × ℕ)) → Uncounted ts → (k : ℕ) → k ≡ first_refusal ts → (k ≡ 0 → ⊥) → count_given k ≡ false
no-count [] u k e h = absurd (h e)
no-count ((true, j) ∷ ts) u k e h = no-count ts u.1 k e h
no-count ((false, j) ∷ ts) u k e h = rw e u.0

module _ (ts : List (Bool × ℕ)) (n : Numbered ts) (k : ℕ) (e : k ≡ first_refusal ts) where
  pub passed-all : k ≡ 0 → Passed ts
  passed-all z = none-failed ts n (sym e ∙ z)

  module _ (us : List (Bool × ℕ)) where
    pub stops : (k ≡ 0 → ⊥) → k ≡ first_refusal (ts ++ us)
    stops h = e ∙ sym (then ts us n ∙ rw (ne_eqb (first_refusal ts) 0 (λ f. h (e ∙ f))) refl)

    pub decides : (r : ℕ) → k ≡ 0 → r ≡ first_refusal us → r ≡ first_refusal (ts ++ us)
    decides r z h = h ∙ sym (then ts us n ∙ rw (sym e ∙ z) refl)

    pub answer-decides : (m : ℕ) (r : Answer) → k ≡ 0 → Answered (first_refusal us) m r → Answered (first_refusal (ts ++ us)) m r
    answer-decides m r z a = (decides r.number z a.0, a.1)

-- a refusal that a list of such tests gives has no count
pub refused-uncounted : (ts : List (Bool × ℕ)) → Uncounted ts → (x : Refusal) → number_of x ≡ first_refusal ts → count_of x ≡ 0
refused-uncounted ts u x e = uncounted x (no-count ts u (number_of x) e (numbered x))

-- a refusal that the first list gives stands, with no count
pub answer-stops : (ts : List (Bool × ℕ)) → Numbered ts → Uncounted ts → (us : List (Bool × ℕ)) (m : ℕ) (x : Refusal) → number_of x ≡ first_refusal ts → Answered (first_refusal (ts ++ us)) m (answer_in (Err x))
unfolding count_with
answer-stops ts n u us m x e =
    let none = no-count ts u (number_of x) e (numbered x) in
    (stops ts n (number_of x) e us (numbered x), uncounted x none ∙ sym (ap (λ (a : Bool). cond a m 0) none))
