-- A test and what it gives: by the two cases of the test. Every refusal has a number other than 0.
use mathlib.Core.Path.{◌≡◌, refl, ap, ◌∙◌}
use mathlib.Core.Bool.{Bool, true, false, cond}
use Rattle.std.specs.Prelude.{Result, Ok, Err}
use Rattle.std.specs.Result.{IsErr, IsErrAnd}
use Rattle.std.proofs.lemmas.Result.{err_from_is_err_and}
use Rattle.spec.specs.Calls.{count_given}
use Rattle.refusals.specs.declared.Refusal.{Refusal}
use Rattle.refusals.specs.declared.Refusal.TheVariants.{NotAShape, NotARowLength, BufferLength, GrindingBit, TooManyNodes, UnusedSlot, NotAStretch}
use Rattle.refusals.specs.Refusal.{number_of, count_of, number_in}

pub test-passed : {x : Unit} (b : Bool) (r : Refusal) → ◌≡◌ {A = Result Unit Refusal} (Ok x) (cond b (Ok tt) (Err r)) → b ≡ true
test-passed true r e = refl
test-passed false r e = cc

pub test-failed : (b : Bool) (r e : Refusal) → ◌≡◌ {A = Result Unit Refusal} (Err e) (cond b (Ok tt) (Err r)) → (b ≡ false) × (e ≡ r)
test-failed true r e h = cc
test-failed false r e h = (refl, cc)

-- the number of a test that comes last
pub last-test : (b : Bool) (r : Refusal) (t : Result Unit Refusal) → t ≡ cond b (Ok tt) (Err r) → number_in t ≡ cond b 0 (number_of r)
last-test true r t e = rw e refl
last-test false r t e = rw e refl

-- what a `?` passes on
pub passed-on : {T : Type 0} (r : Result T Refusal) (e : Refusal) → IsErr r × IsErrAnd r (λ y. y ≡ e) → r ≡ Err e
passed-on r e h =
    let p = err_from_is_err_and r h.1 in
    p.1 ∙ ap Err p.2

pub numbered : (r : Refusal) → number_of r ≡ 0 → ⊥
unfolding number_of
numbered = elim [
  | NotAShape ↦ λ h. cc
  | NotARowLength ↦ λ h. cc
  | BufferLength ↦ λ h. cc
  | GrindingBit ↦ λ h. cc
  | TooManyNodes n ↦ λ h. cc
  | UnusedSlot n ↦ λ h. cc
  | NotAStretch ↦ λ h. cc
]

-- no count goes with a number that has none
pub uncounted : (r : Refusal) → count_given (number_of r) ≡ false → count_of r ≡ 0
unfolding number_of count_of
uncounted = elim [
  | NotAShape ↦ λ h. refl
  | NotARowLength ↦ λ h. refl
  | BufferLength ↦ λ h. refl
  | GrindingBit ↦ λ h. refl
  | TooManyNodes n ↦ λ h. cc
  | UnusedSlot n ↦ λ h. cc
  | NotAStretch ↦ λ h. refl
]
