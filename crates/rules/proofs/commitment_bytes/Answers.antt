-- Three nodes' bytes, or two, by the kind.
use Prim.Native.Nat.{ℕ, ◌*◌}
use mathlib.Core.Path.{sym, ap₂, ◌∙◌}
use mathlib.Core.Bool.{Bool, cond}
use native.Mathlib.Omega.{arith}
use Rattle.spec.specs.Shapes.{leaf_commitment_bytes}
use Rattle.rules.proofs.commitment_bytes.Goals as goal

pub overflow_mul-result : goal.overflow_mul-result
overflow_mul-result c = omega (arith, c.node_bytes-n.ensures.2)

pub overflow_mul-result-else-is_ordinary : goal.overflow_mul-result-else-is_ordinary
overflow_mul-result-else-is_ordinary c = omega (arith, c.node_bytes-n.ensures.2)

pub returns-then-is_ordinary : goal.returns-then-is_ordinary
unfolding leaf_commitment_bytes
returns-then-is_ordinary c =
    let k = sym c.is_ordinary.ensures ∙ c.if-is_ordinary.true in
    let n = c.node_bytes-n.ensures in
    (ap₂ (λ (b : Bool) (m : ℕ). cond b 3 2 * m) (sym k) n.0, omega (arith, n.2))

pub returns-else-is_ordinary : goal.returns-else-is_ordinary
unfolding leaf_commitment_bytes
returns-else-is_ordinary c =
    let k = sym c.is_ordinary.ensures ∙ c.if-is_ordinary.false in
    let n = c.node_bytes-n.ensures in
    (ap₂ (λ (b : Bool) (m : ℕ). cond b 3 2 * m) (sym k) n.0, omega (arith, n.2))
