-- Where the width is at most b, the test `first ≤ b - width` is that of the sum.
use Prim.Native.Nat.{ℕ, ◌+◌, ◌-◌, ◌≤◌}
use mathlib.Core.Path.{◌≡◌, sym, ap, ◌∙◌}
use mathlib.Core.Bool.{Bool, ◌&&◌, and-false}
use native.Mathlib.Decide.{dec_le}
use native.Mathlib.Omega.{arith}
use lib.Dec.{leb}
use borrow.Author.Tests.{le-leb, lt-leb}
use Rattle.spec.specs.Calls.{stretch_ok}
use Rattle.rules.proofs.is_stretch.Goals as goal

by_difference : (f g b : ℕ) → g ≤ b → leb f (b - g) ≡ leb (f + g) b
by_difference f g b h = go (dec_le f (b - g))
  where
    go : Dec (f ≤ b - g) → leb f (b - g) ≡ leb (f + g) b
    go (yes l) = le-leb f (b - g) l ∙ sym (le-leb (f + g) b (omega arith))
    go (no l) = lt-leb f (b - g) (omega arith) ∙ sym (lt-leb (f + g) b (omega arith))

pub returns-then-b-g : goal.returns-then-b-g
unfolding stretch_ok
returns-then-b-g c =
    let g = c.args in
    sym (ap (λ (x : Bool). leb 1 g.z.width && x) (lt-leb (g.z.first + g.z.width) g.b (omega arith)) ∙ and-false (leb 1 g.z.width))

pub returns : goal.returns
unfolding stretch_ok
returns c =
    let g = c.args in
    ap (λ (x : Bool). leb 1 g.z.width && x) (by_difference g.z.first g.z.width g.b (omega arith))
