-- An entry's leaf lies in the trees, so no sum overflows.
use native.Mathlib.Omega.{arith}
use Rattle.spec.specs.Version1.{leaf_in}
use Rattle.planning_laws.proofs.ShapeFacts.{shape-facts}
use Rattle.planning_laws.proofs.Forest.{forest-leaf}
use Rattle.v1_rules.proofs.leaf_node.Goals as goal

pub returns : goal.returns
unfolding leaf_in
returns c =
    let l = forest-leaf c.args.s (shape-facts c.args.s c.requires.0) c.args.i c.args.j c.requires.1 c.requires.2 in
    let r = c.first_node.ensures in
    let n = c.entry_count.ensures in
    (omega arith, omega arith, omega arith)
