-- The record that is the contract of open, refused and written. s is the shape as given and t the resolved one, xs the lent opening, r the answer.
use Prim.Native.Nat.{ℕ}
use mathlib.Core.Path.{◌≡◌, refl}
use mathlib.Core.List.{List}
use borrow.Author.Tests.{ne_eqb}
use Rattle.spec.specs.declared.Shape.{Shape}
use Rattle.spec.specs.declared.Answer.{Answer}
use Rattle.spec.specs.Shapes.{resolved, planned_count}
use Rattle.spec.specs.Signer.{opening_of}
use Rattle.spec.specs.Calls.{plan_number, open_lengths, Open}
use Rattle.refusals.specs.Numbers.{Answered}

module _ (s t : Shape) (e : t ≡ resolved s) (ch tree lcs xs : List ℕ) (r : Answer) where
  module _ (a : Answered (plan_number t ch (open_lengths t ch tree lcs xs)) (planned_count t ch) r) where
    pub refused : (r.number ≡ 0 → ⊥) → Open s ch tree lcs xs xs r
    refused h = record { number = rw e at a.0; count = rw e at a.1; opening = rw (ne_eqb r.number 0 h) refl }

    pub written : (ys : List ℕ) → r.number ≡ 0 → ys ≡ opening_of t ch tree lcs → Open s ch tree lcs xs ys r
    written ys h w = record { number = rw e at a.0; count = rw e at a.1; opening = rw h (rw e at w) }
