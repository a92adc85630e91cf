-- Two strings are compared element by element, as the definition does.
use Prim.Native.Nat.{ℕ}
use mathlib.Core.Path.{◌≡◌, refl, ap, ◌∙◌}
use mathlib.Core.Bool.{Bool, ◌&&◌}
use mathlib.Core.List.{List, [], ◌∷◌}
use lib.Dec.{eqb}
use lib.Pointwise.{pointwise}
use Rattle.record.specs.RecordCalls.{same_bytes}
use Rattle.record_fields.proofs.same_bytes.Goals as goal

by_element : (xs ys : List ℕ) → pointwise eqb xs ys ≡ same_bytes xs ys
unfolding same_bytes
by_element [] [] = refl
by_element [] (y ∷ ys) = refl
by_element (x ∷ xs) [] = refl
by_element (x ∷ xs) (y ∷ ys) = ap (λ (b : Bool). eqb x y && b) (by_element xs ys)

pub returns : goal.returns
returns c = c.eq.ensures ∙ by_element _ _
