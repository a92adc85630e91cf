-- An entry's place is below the number of leaves.
use native.Mathlib.Omega.{arith}
use Rattle.planning_laws.proofs.ShapeFacts.{shape-facts, leaves-max}
use Rattle.planning_laws.proofs.ShapeLaws.{shape-laws, entry_in}
use Rattle.rules.proofs.entry_of.Goals as goal

pub overflow_add-result : goal.overflow_add-result
overflow_add-result c =
    let a = c.args in
    let p = c.requires in
    let e = entry_in a.s (shape-laws a.s p.0) a.i a.j p.1 p.2 in
    let m = leaves-max a.s (shape-facts a.s p.0) in
    omega arith

pub returns : goal.returns
returns c =
    let a = c.args in
    let p = c.requires in
    let e = entry_in a.s (shape-laws a.s p.0) a.i a.j p.1 p.2 in
    let m = leaves-max a.s (shape-facts a.s p.0) in
    (omega arith, omega arith, omega arith)
