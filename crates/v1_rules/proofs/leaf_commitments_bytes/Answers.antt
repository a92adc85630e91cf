-- No shape has more than 86,016 leaves, and no node more than 32 bytes.
use Prim.Native.Nat.{ℕ, ◌*◌, ◌≤◌}
use mathlib.Core.Path.{ap₂}
use native.Mathlib.Omega.{arith}
use Rattle.spec.specs.Version1.{leaf_commitment_bytes1, leaf_commitments1_bytes}
use Rattle.laws.proofs.Concat.{mul-limit}
use Rattle.v1_rules.proofs.leaf_commitments_bytes.Goals as goal

product : (w l : ℕ) → w ≤ 32 → l ≤ 86016 → 2 * w * l ≤ 64 * 86016
product w l h k = mul-limit (2 * w) l 64 86016 (omega arith) k

pub overflow_mul-result-2 : goal.overflow_mul-result-2
overflow_mul-result-2 c = (let m = product c.node_bytes.result c.leaf_count.result c.node_bytes.ensures.2 c.leaf_count.ensures.2 in omega arith)

pub returns : goal.returns
unfolding leaf_commitment_bytes1 leaf_commitments1_bytes
returns c =
    let m = product c.node_bytes.result c.leaf_count.result c.node_bytes.ensures.2 c.leaf_count.ensures.2 in
    (ap₂ (λ (w n : ℕ). 2 * w * n) c.node_bytes.ensures.0 c.leaf_count.ensures.0, omega arith)
