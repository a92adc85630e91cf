-- Each vector before vector i has an entry at least, so nothing is taken from less.
use native.Mathlib.Omega.{arith}
use Rattle.spec.specs.Version1.{first_node}
use Rattle.planning_laws.proofs.ShapeFacts.{shape-facts}
use Rattle.planning_laws.proofs.Forest.{entries-before}
use Rattle.v1_rules.proofs.first_node.Goals as goal

pub overflow_sub-result : goal.overflow_sub-result
overflow_sub-result c = (let e = entries-before c.args.s (shape-facts c.args.s c.requires.0) c.args.i in let r = c.first_entry.ensures in omega arith)

pub returns : goal.returns
unfolding first_node
returns c = (let r = c.first_entry.ensures in (omega arith, omega arith))
