-- At most 32 leaf commitments of 96 bytes and 512 nodes of 32.
use Prim.Native.Nat.{ℕ, ◌+◌, ◌*◌, ◌≤◌}
use mathlib.Core.Path.{ap₂}
use mathlib.Core.Bool.{true}
use mathlib.Core.Path.{◌≡◌}
use native.Mathlib.Omega.{arith}
use Rattle.spec.specs.declared.Shape.{Shape}
use Rattle.spec.specs.Shapes.{shape_ok, opening_bytes}
use Rattle.laws.proofs.Concat.{mul-limit}
use Rattle.planning_laws.proofs.ShapeFacts.{shape-facts}
use Rattle.lengths.proofs.opening_bytes.Goals as goal

hidden-part : (s : Shape) (w : ℕ) → shape_ok s ≡ true → w ≤ 96 → w * s.tau ≤ 96 * 32
hidden-part s w ok h = mul-limit w s.tau 96 32 h (shape-facts s ok).tau-max

slots-part : (s : Shape) (w : ℕ) → shape_ok s ≡ true → w ≤ 32 → w * s.t ≤ 32 * 512
slots-part s w ok h = mul-limit w s.t 32 512 h (shape-facts s ok).t-max

pub overflow_mul-result : goal.overflow_mul-result
overflow_mul-result c = (let m = hidden-part c.args.s c.commitment_bytes.result c.requires c.commitment_bytes.ensures.1 in omega arith)

pub overflow_mul-result-2 : goal.overflow_mul-result-2
overflow_mul-result-2 c = (let m = slots-part c.args.s c.node_bytes.result c.requires c.node_bytes.ensures.2 in omega arith)

pub overflow_add-result : goal.overflow_add-result
overflow_add-result c =
    let v = c.commitment_bytes in
    let w = c.node_bytes in
    let m = hidden-part c.args.s v.result c.requires v.ensures.1 in
    let n = slots-part c.args.s w.result c.requires w.ensures.2 in
    omega arith

pub returns : goal.returns
unfolding opening_bytes
returns c =
    let v = c.commitment_bytes in
    let w = c.node_bytes in
    let m = hidden-part c.args.s v.result c.requires v.ensures.1 in
    let n = slots-part c.args.s w.result c.requires w.ensures.2 in
    (ap₂ (λ (x y : ℕ). x * c.args.s.tau + y * c.args.s.t) v.ensures.0 w.ensures.0, omega arith)
