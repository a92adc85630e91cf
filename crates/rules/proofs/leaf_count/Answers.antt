-- The vectors' entries together are the leaves.
use mathlib.Core.Path.{◌∙◌}
use native.Mathlib.Omega.{arith}
use Rattle.planning_laws.proofs.Depths.{entry-all}
use Rattle.planning_laws.proofs.ShapeFacts.{shape-facts, leaves-max, leaves-pos}
use Rattle.rules.proofs.leaf_count.Goals as goal

pub returns : goal.returns
returns c =
    let s = c.args.s in
    let f = shape-facts s c.requires in
    let e = c.first_entry.ensures.0 ∙ entry-all s (omega (arith, f.few)) in
    let p = leaves-pos s f in
    let m = leaves-max s f in
    (e, omega arith, omega arith)
