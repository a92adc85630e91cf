-- No shape has more than 86,016 leaves, and each vector has one at least.
use Prim.Native.Nat.{ℕ, ◌-◌, ◌*◌, ◌≤◌}
use mathlib.Core.Path.{ap₂}
use native.Mathlib.Omega.{arith}
use Rattle.spec.specs.Version1.{trees1_bytes}
use Rattle.laws.proofs.Concat.{mul-limit}
use Rattle.planning_laws.proofs.ShapeFacts.{shape-facts}
use Rattle.planning_laws.proofs.Forest.{entries-after}
use Rattle.v1_rules.proofs.trees_bytes.Goals as goal

product : (w l tau : ℕ) → w ≤ 32 → l ≤ 86016 → w * (2 * l - tau) ≤ 32 * 172032
product w l tau h k = mul-limit w (2 * l - tau) 32 172032 h (omega arith)

pub overflow_sub-result : goal.overflow_sub-result
overflow_sub-result c =
    let e = entries-after c.args.s (shape-facts c.args.s c.requires) 0 (omega arith) in
    let r = c.leaf_count.ensures in
    omega arith

pub overflow_mul-result-2 : goal.overflow_mul-result-2
overflow_mul-result-2 c = (let m = product c.node_bytes.result c.leaf_count.result c.args.s.tau c.node_bytes.ensures.2 c.leaf_count.ensures.2 in omega arith)

pub returns : goal.returns
unfolding trees1_bytes
returns c =
    let m = product c.node_bytes.result c.leaf_count.result c.args.s.tau c.node_bytes.ensures.2 c.leaf_count.ensures.2 in
    (ap₂ (λ (w n : ℕ). w * (2 * n - c.args.s.tau)) c.node_bytes.ensures.0 c.leaf_count.ensures.0, omega arith)
