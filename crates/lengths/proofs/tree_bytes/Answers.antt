-- No tree has more than 86,016 leaves, and no node more than 32 bytes.
use Prim.Native.Nat.{ℕ, ◌-◌, ◌*◌}
use mathlib.Core.Path.{ap₂}
use native.Mathlib.Omega.{arith}
use Rattle.spec.specs.Shapes.{tree_bytes}
use Rattle.laws.proofs.Concat.{mul-limit}
use Rattle.lengths.proofs.tree_bytes.Goals as goal

pub overflow_mul-result-2 : goal.overflow_mul-result-2
overflow_mul-result-2 c =
    let l = c.leaf_count-n in
    let m = mul-limit c.node_bytes.result (2 * l.result - 1) 32 172031 c.node_bytes.ensures.2 (omega (arith, l.ensures.2)) in
    omega arith

pub returns : goal.returns
unfolding tree_bytes
returns c =
    let l = c.leaf_count-n in
    let m = mul-limit c.node_bytes.result (2 * l.result - 1) 32 172031 c.node_bytes.ensures.2 (omega (arith, l.ensures.2)) in
    (ap₂ (λ (w n : ℕ). w * (2 * n - 1)) c.node_bytes.ensures.0 l.ensures.0, omega arith)
