-- The test `fits` of spec is passed exactly by the buffers that have their lengths. By induction on the buffers.
use Prim.Native.Nat.{ℕ}
use mathlib.Core.Path.{◌≡◌, refl, ap₂}
use mathlib.Core.Bool.{true, ◌&&◌}
use mathlib.Core.List.{List, [], ◌∷◌}
use lib.Dec.{eqb}
use borrow.Author.Tests.{eq-eqb, eqb-true}
use Rattle.spec.specs.Calls.{fits}
use Rattle.laws.specs.Lengths.{Sized}
use Rattle.laws.proofs.Conjunctions.{both_true}

pub sized-fits : (ps : List (ℕ × ℕ)) → Sized ps → fits ps ≡ true
sized-fits [] h = refl
sized-fits (p ∷ ps) h = ap₂ ◌&&◌ (eq-eqb p.0 p.1 h.0) (sized-fits ps h.1)

pub fits-sized : (ps : List (ℕ × ℕ)) → fits ps ≡ true → Sized ps
fits-sized [] h = tt
fits-sized (p ∷ ps) h = (let q = both_true (eqb p.0 p.1) (fits ps) h in (eqb-true p.0 p.1 q.0, fits-sized ps q.1))
