-- A node has at most 32 bytes; there are at most 256 siblings and 32 leaf commitments of two nodes' length.
use Prim.Native.Nat.{ℕ, ◌+◌, ◌*◌, ◌≤◌}
use mathlib.Core.Path.{ap₂}
use native.Mathlib.Omega.{arith}
use Rattle.spec.specs.Version1.{opening1_bytes}
use Rattle.laws.proofs.Concat.{mul-limit}
use Rattle.planning_laws.proofs.ShapeFacts.{shape-facts}
use Rattle.v1_rules.proofs.opening_bytes.Goals as goal

-- the bytes of all nodes
all-nodes : (w b tau : ℕ) → tau ≤ 32 → w ≤ 32 → b ≤ 256 → w * (b + 2 * tau) ≤ 32 * 320
all-nodes w b tau m n k = mul-limit w (b + 2 * tau) 32 320 n (omega arith)

pub overflow_mul-result : goal.overflow_mul-result
overflow_mul-result c = (let m = (shape-facts c.args.s c.requires).tau-max in omega arith)

pub overflow_add-result : goal.overflow_add-result
overflow_add-result c = (let m = (shape-facts c.args.s c.requires).tau-max in omega arith)

pub overflow_mul-result-2 : goal.overflow_mul-result-2
overflow_mul-result-2 c =
    let m = all-nodes c.node_bytes.result c.level_bits.result c.args.s.tau (shape-facts c.args.s c.requires).tau-max c.node_bytes.ensures.2 c.level_bits.ensures.1 in
    omega arith

pub returns : goal.returns
unfolding opening1_bytes
returns c =
    let m = all-nodes c.node_bytes.result c.level_bits.result c.args.s.tau (shape-facts c.args.s c.requires).tau-max c.node_bytes.ensures.2 c.level_bits.ensures.1 in
    (ap₂ (λ (w n : ℕ). w * (n + 2 * c.args.s.tau)) c.node_bytes.ensures.0 c.level_bits.ensures.0, omega arith)
