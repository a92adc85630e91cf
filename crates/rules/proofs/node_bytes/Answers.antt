-- A node has the level's bits.
use Prim.Native.Nat.{ℕ, ◌/◌}
use mathlib.Core.Path.{ap}
use native.Mathlib.Omega.{arith}
use Rattle.spec.specs.Shapes.{node_bytes}
use Rattle.planning_laws.proofs.ShapeFacts.{shape-facts, widths}
use Rattle.rules.proofs.node_bytes.Goals as goal

pub returns : goal.returns
unfolding node_bytes
returns c =
    let w = widths c.args.s (shape-facts c.args.s c.requires) in
    let e = ap (λ (n : ℕ). n / 8) c.level_bits.ensures.0 in
    (e, omega (arith, w.node-min), omega (arith, w.node-max))
