-- The number of version 1's commit and reconstruct, of the front's and of the lengths; and what holds where it is 0. By the laws of lists of tests.
use Prim.Native.Nat.{ℕ}
use mathlib.Core.Path.{◌≡◌, refl, sym, ◌∙◌}
use mathlib.Core.Bool.{Bool, true, cond}
use mathlib.Core.List.{List, [], ◌∷◌}
use lib.Dec.{eqb}
use borrow.Author.Tests.{eqb-true, ne_eqb}
use Rattle.spec.specs.declared.Shape.{Shape}
use Rattle.spec.specs.Shapes.{ordinary, shape_ok}
use Rattle.spec.specs.Calls.{first_refusal, fits, row_ok}
use Rattle.spec.specs.Version1.{shape1_ok}
use Rattle.spec.specs.Version1Calls.{row1_number, open1_number}
use Rattle.refusals.specs.declared.Refusal.{Refusal}
use Rattle.refusals.specs.Refusal.{number_of, count_of}
use Rattle.refusals.proofs.Lists.{refused-uncounted}
use Rattle.laws.specs.Lengths.{Sized}
use Rattle.laws.proofs.Conjunctions.{both_true}
use Rattle.laws.proofs.Lengths.{fits-sized}
use Rattle.laws.proofs.Refusals.{none-failed, then}

abbrev Front : Shape → ℕ → List (Bool × ℕ)
Front s n = (shape1_ok s, 1) ∷ (row_ok n, 2) ∷ []

-- a shape of version 1 is one of version 2, without grinding bits and of kind 0
pub shape-parts : (s : Shape) → shape1_ok s ≡ true → (shape_ok s ≡ true) × (s.w ≡ 0) × (s.kind ≡ 0)
unfolding shape1_ok
shape-parts s h =
    let a = both_true _ (ordinary s) h in
    let b = both_true _ (eqb s.t 1) a.0 in
    let c = both_true (shape_ok s) (eqb s.w 0) b.0 in
    (c.0, eqb-true s.w 0 c.1, eqb-true s.kind 0 a.1)

module _ (s : Shape) (n : ℕ) (ls : List (ℕ × ℕ)) where
  by_front : row1_number s n ls ≡ cond (eqb (first_refusal (Front s n)) 0) (cond (fits ls) 0 3) (first_refusal (Front s n))
  unfolding row1_number
  by_front = then (Front s n) ((fits ls, 3) ∷ []) (refl, (refl, tt))

  pub front-stops : (k : ℕ) → k ≡ first_refusal (Front s n) → (k ≡ 0 → ⊥) → k ≡ row1_number s n ls
  front-stops k e h = e ∙ sym (by_front ∙ rw (ne_eqb (first_refusal (Front s n)) 0 (λ f. h (e ∙ f))) refl)

  pub lengths-decide : (k r : ℕ) → k ≡ first_refusal (Front s n) → k ≡ 0 → r ≡ cond (fits ls) 0 3 → r ≡ row1_number s n ls
  lengths-decide k r e z h = h ∙ sym (by_front ∙ rw (sym e ∙ z) refl)

  pub accepted : row1_number s n ls ≡ 0 → (shape1_ok s ≡ true) × (row_ok n ≡ true) × Sized ls
  unfolding row1_number
  accepted h = (let q = none-failed ((shape1_ok s, 1) ∷ (row_ok n, 2) ∷ (fits ls, 3) ∷ []) (refl, (refl, (refl, tt))) h in (q.0, q.1.0, fits-sized ls q.1.1.0))

pub front-passed : (s : Shape) (n k : ℕ) → k ≡ first_refusal (Front s n) → k ≡ 0 → (shape1_ok s ≡ true) × (row_ok n ≡ true)
front-passed s n k e z = (let q = none-failed (Front s n) (refl, (refl, tt)) (sym e ∙ z) in (q.0, q.1.0))

pub open-accepted : (s : Shape) (ls : List (ℕ × ℕ)) → open1_number s ls ≡ 0 → (shape1_ok s ≡ true) × Sized ls
unfolding open1_number
open-accepted s ls h = (let q = none-failed ((shape1_ok s, 1) ∷ (fits ls, 3) ∷ []) (refl, (refl, tt)) h in (q.0, fits-sized ls q.1.0))

-- no refusal of version 1 comes with a count
pub row-uncounted : (s : Shape) (n : ℕ) (ls : List (ℕ × ℕ)) (x : Refusal) → number_of x ≡ row1_number s n ls → count_of x ≡ 0
unfolding row1_number
row-uncounted s n ls = refused-uncounted ((shape1_ok s, 1) ∷ (row_ok n, 2) ∷ (fits ls, 3) ∷ []) (refl, (refl, (refl, tt)))

pub open-uncounted : (s : Shape) (ls : List (ℕ × ℕ)) (x : Refusal) → number_of x ≡ open1_number s ls → count_of x ≡ 0
unfolding open1_number
open-uncounted s ls = refused-uncounted ((shape1_ok s, 1) ∷ (fits ls, 3) ∷ []) (refl, (refl, tt))
