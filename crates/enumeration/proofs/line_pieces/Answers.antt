-- The definition's sum and quotient.
use mathlib.Core.Path.{ap}
use Prim.Native.Nat.{ℕ, ◌+◌, ◌/◌}
use native.Mathlib.Omega.{arith}
use Rattle.enumeration.proofs.line_pieces.Goals as goal

pub returns : goal.returns
returns c = (ap (λ (n : ℕ). (n + 1023) / 1024) c.line_count.ensures.0, omega (arith, c.line_count.ensures.2))
