-- Two nodes' bytes.
use Prim.Native.Nat.{ℕ, ◌*◌}
use mathlib.Core.Path.{ap}
use native.Mathlib.Omega.{arith}
use Rattle.spec.specs.Shapes.{hash_bytes}
use Rattle.rules.proofs.hash_bytes.Goals as goal

pub returns : goal.returns
unfolding hash_bytes
returns c = (ap (λ (n : ℕ). 2 * n) c.node_bytes.ensures.0, omega arith)
