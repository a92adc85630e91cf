-- A node has at most 32 bytes, and at most 256 siblings and 32 leaf commitments of two nodes' length stand before.
use Prim.Native.Nat.{ℕ, ◌+◌, ◌*◌, ◌≤◌}
use mathlib.Core.Path.{ap₂}
use native.Mathlib.Omega.{arith}
use Rattle.spec.specs.Version1.{decommitment_from}
use Rattle.laws.proofs.Concat.{mul-limit}
use Rattle.planning_laws.proofs.ShapeFacts.{shape-facts}
use Rattle.v1_rules.proofs.decommitment_from.Goals as goal

-- the number of nodes before it, and their bytes
before-it : (w b i tau : ℕ) → i ≤ tau → tau ≤ 32 → w ≤ 32 → b ≤ 256 → (i ≤ 32) × (w * (b + 2 * i) ≤ 32 * 320)
before-it w b i tau h m n k = (omega arith, mul-limit w (b + 2 * i) 32 320 n (omega arith))

pub overflow_mul-result : goal.overflow_mul-result
overflow_mul-result c = (let m = (shape-facts c.args.s c.requires.0).tau-max in omega arith)

pub overflow_add-result : goal.overflow_add-result
overflow_add-result c = (let m = (shape-facts c.args.s c.requires.0).tau-max in omega arith)

pub overflow_mul-result-2 : goal.overflow_mul-result-2
overflow_mul-result-2 c =
    let m = before-it c.node_bytes.result c.first_bit.result c.args.i c.args.s.tau c.requires.1 (shape-facts c.args.s c.requires.0).tau-max c.node_bytes.ensures.2 c.first_bit.ensures.2 in
    omega arith

pub returns : goal.returns
unfolding decommitment_from
returns c =
    let m = before-it c.node_bytes.result c.first_bit.result c.args.i c.args.s.tau c.requires.1 (shape-facts c.args.s c.requires.0).tau-max c.node_bytes.ensures.2 c.first_bit.ensures.2 in
    (ap₂ (λ (w n : ℕ). w * (n + 2 * c.args.i)) c.node_bytes.ensures.0 c.first_bit.ensures.0, omega arith)
