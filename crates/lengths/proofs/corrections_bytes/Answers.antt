-- There are at most 32 vectors.
use Prim.Native.Nat.{◌-◌}
use mathlib.Core.Path.{refl}
use native.Mathlib.Omega.{arith}
use Rattle.spec.specs.Shapes.{corrections_bytes}
use Rattle.laws.proofs.Concat.{mul-limit}
use Rattle.planning_laws.proofs.ShapeFacts.{shape-facts}
use Rattle.lengths.proofs.corrections_bytes.Goals as goal

pub overflow_sub-result : goal.overflow_sub-result
overflow_sub-result c = (let f = shape-facts c.args.s c.requires.0 in omega arith)

pub overflow_mul-result : goal.overflow_mul-result
overflow_mul-result c =
    let f = shape-facts c.args.s c.requires.0 in
    let m = mul-limit c.args.b (c.args.s.tau - 1) 8192 31 c.requires.1 (omega arith) in
    omega arith

pub returns : goal.returns
unfolding corrections_bytes
returns c =
    let f = shape-facts c.args.s c.requires.0 in
    let m = mul-limit c.args.b (c.args.s.tau - 1) 8192 31 c.requires.1 (omega arith) in
    (refl, omega arith)
