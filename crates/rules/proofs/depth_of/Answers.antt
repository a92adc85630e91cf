-- By whether the vector is one of the deeper ones.
use mathlib.Core.Path.{sym}
use native.Mathlib.Omega.{arith}
use Rattle.planning_laws.proofs.Depths.{depth-deep, depth-flat}
use Rattle.planning_laws.proofs.ShapeFacts.{shape-facts, depth_small}
use Rattle.rules.proofs.depth_of.Goals as goal

pub overflow_add-result : goal.overflow_add-result
overflow_add-result c = (let f = shape-facts c.args.s c.requires in omega arith)

pub returns-then-i-deeper_count : goal.returns-then-i-deeper_count
returns-then-i-deeper_count c =
    let a = c.args in
    let f = shape-facts a.s c.requires in
    let r = c.deeper_count.ensures in
    let d = depth-deep a.s a.i (omega (arith, c.if-i-deeper_count.true)) in
    let m = depth_small a.s a.i f in
    (sym d, omega arith)

pub returns-else-i-deeper_count : goal.returns-else-i-deeper_count
returns-else-i-deeper_count c =
    let a = c.args in
    let f = shape-facts a.s c.requires in
    let r = c.deeper_count.ensures in
    let d = depth-flat a.s a.i (omega (arith, c.if-i-deeper_count.false)) in
    (sym d, f.k-max)
