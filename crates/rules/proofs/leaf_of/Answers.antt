-- An entry's leaf lies in the tree, so the sum does not overflow.
use native.Mathlib.Omega.{arith}
use Rattle.planning_laws.proofs.Depths.{leaf-of-entry}
use Rattle.rules.proofs.leaf_of.Goals as goal

pub returns : goal.returns
returns c =
    let a = c.args in
    let p = c.requires in
    let l = leaf-of-entry a.s a.i a.j p.1 p.2 in
    let n = c.leaf_count.ensures in
    let r = c.leaf_place.ensures in
    (omega arith, omega arith, omega arith, omega arith)
