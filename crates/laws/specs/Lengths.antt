-- Buffers that have their lengths: what the test `fits` of spec says, as equations.
use Rattle.std.specs.Prelude.{ℕ, ◌≡◌, List, [], ◌∷◌}

-- each length is what it must be
abbrev pub Sized : List (ℕ × ℕ) → Type 0
Sized [] = Unit {0}
Sized (p ∷ ps) = (p.0 ≡ p.1) × Sized ps
