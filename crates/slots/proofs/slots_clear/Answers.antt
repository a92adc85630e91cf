-- The slots stand behind the hidden leaf commitments.
use Prim.Native.Nat.{ℕ, ◌+◌, ◌*◌}
use mathlib.Core.Path.{◌≡◌, ap, ap₂, ◌∙◌}
use native.Mathlib.Omega.{arith}
use lib.ListN.{drop}
use Rattle.spec.specs.Bytes.{all_zero}
use Rattle.spec.specs.Shapes.{node_bytes, leaf_commitment_bytes, opening_bytes}
use Rattle.laws.proofs.Concat.{mul-limit, mul-rest}
use Rattle.planning_laws.proofs.ShapeFacts.{shape-facts}
use Rattle.slots.proofs.slots_clear.Goals as goal

pub overflow_mul-first : goal.overflow_mul-first
overflow_mul-first c =
    let f = shape-facts c.args.s c.requires.0 in
    let v = c.commitment_bytes in
    let m = mul-limit v.result c.args.s.tau 96 32 v.ensures.1 f.tau-max in
    omega arith

pub overflow_mul-node_bytes : goal.overflow_mul-node_bytes
overflow_mul-node_bytes c =
    let f = shape-facts c.args.s c.requires.0 in
    let w = c.node_bytes in
    let m = mul-limit w.result c.args.n 32 512 w.ensures.2 (omega (arith, c.requires.1)) in
    omega arith

pub overflow_add-first : goal.overflow_add-first
overflow_add-first c =
    let f = shape-facts c.args.s c.requires.0 in
    let v = c.commitment_bytes in
    let w = c.node_bytes in
    let k = mul-limit v.result c.args.s.tau 96 32 v.ensures.1 f.tau-max in
    let m = mul-limit w.result c.args.n 32 512 w.ensures.2 (omega (arith, c.requires.1)) in
    omega arith

pub is_clear_from-requires : goal.is_clear_from-requires
unfolding opening_bytes
is_clear_from-requires c =
    let s = c.args.s in
    let v = c.commitment_bytes in
    let w = c.node_bytes in
    let front : v.result * s.tau ≡ leaf_commitment_bytes s * s.tau = ap (λ (n : ℕ). n * s.tau) v.ensures.0 in
    let slots : w.result * s.t ≡ node_bytes s * s.t = ap (λ (n : ℕ). n * s.t) w.ensures.0 in
    let used = mul-rest w.result c.args.n s.t c.requires.1 in
    let long = c.requires.2 in
    omega arith

pub returns : goal.returns
returns c =
    let g = c.args in
    let v = c.commitment_bytes in
    let w = c.node_bytes in
    c.is_clear_from.ensures ∙ ap₂ (λ (m n : ℕ). all_zero (drop (m * g.s.tau + n * g.n) g.opening.now)) v.ensures.0 w.ensures.0
