-- The record that is the contract of reconstruct_stretch, refused and written. s is the shape as given and t the resolved one, x what the buffers held, r the answer.
use Prim.Native.Nat.{ℕ}
use mathlib.Core.Path.{◌≡◌, refl}
use mathlib.Core.List.{List}
use borrow.Author.Tests.{ne_eqb}
use Rattle.spec.specs.declared.Shape.{Shape}
use Rattle.spec.specs.declared.Stretch.{Stretch}
use Rattle.spec.specs.declared.Answer.{Answer}
use Rattle.spec.specs.Shapes.{resolved, planned_count}
use Rattle.spec.specs.Primitives.{faest}
use Rattle.spec.specs.Calls.{Reconstructed, reconstructed, reconstruct_lengths, reconstruct_stretch_number, ReconstructStretch}
use Rattle.refusals.specs.Numbers.{Answered}

module _ (s t : Shape) (e : t ≡ resolved s) (n : ℕ) (z : Stretch) (iv ch cs op : List ℕ) (x : Reconstructed) (r : Answer) where
  module _ (a : Answered (reconstruct_stretch_number t n z ch op (reconstruct_lengths t z.width iv ch cs op x)) (planned_count t ch) r) where
    pub refused : (r.number ≡ 0 → ⊥) → ReconstructStretch faest s n z iv ch cs op x x r
    refused h = record { number = rw e at a.0; count = rw e at a.1; buffers = rw (ne_eqb r.number 0 h) refl }

    pub written : (y : Reconstructed) → r.number ≡ 0 → y ≡ reconstructed faest t z iv ch cs op → ReconstructStretch faest s n z iv ch cs op x y r
    written y h w = record { number = rw e at a.0; count = rw e at a.1; buffers = rw h (rw e at w) }
