-- The comparison of two strings succeeds exactly where they are equal: by induction on both.
use Prim.Native.Nat.{ℕ}
use mathlib.Core.Path.{◌≡◌, refl, sym, ap₂}
use mathlib.Core.Bool.{true, ◌&&◌, true≢false}
use mathlib.Core.List.{List, [], ◌∷◌}
use lib.Dec.{eqb}
use borrow.Author.Tests.{eq-eqb, eqb-true}
use Rattle.laws.proofs.Conjunctions.{both_true}
use Rattle.record.specs.RecordCalls.{same_bytes}

pub same_refl : (xs : List ℕ) → same_bytes xs xs ≡ true
unfolding same_bytes
same_refl [] = refl
same_refl (x ∷ xs) = ap₂ ◌&&◌ (eq-eqb x x refl) (same_refl xs)

pub same-equal : (xs ys : List ℕ) → same_bytes xs ys ≡ true → xs ≡ ys
unfolding same_bytes
same-equal [] [] h = refl
same-equal (x ∷ xs) (y ∷ ys) h =
    let q = both_true (eqb x y) (same_bytes xs ys) h in
    ap₂ (λ (a : ℕ) (l : List ℕ). a ∷ l) (eqb-true x y q.0) (same-equal xs ys q.1)
same-equal [] (y ∷ ys) h = absurd (true≢false (sym h))
same-equal (x ∷ xs) [] h = absurd (true≢false (sym h))
