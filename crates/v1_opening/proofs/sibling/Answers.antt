-- The shift does not leave the word, and both summands are numbers of one level.
use Prim.Native.Nat.{◌+◌, ◌^◌, ◌≤◌}
use native.Mathlib.Omega.{arith}
use lib.Pow.{pow_pos, pow_mono}
use Rattle.v1_opening.proofs.Siblings.{shifted, beside, sibling-as, sibling-in}
use Rattle.v1_opening.proofs.sibling.Goals as goal

pub overflow_sub-result : goal.overflow_sub-result
overflow_sub-result c =
    let g = c.args in
    let e = shifted g.l (omega arith) in
    let p = pow_pos (g.l + 1) in
    omega arith

pub overflow_add-result : goal.overflow_add-result
overflow_add-result c =
    let g = c.args in
    let e = shifted g.l (omega arith) in
    let b = beside g.d g.j g.l 1 c.requires.1 c.requires.2 (omega arith) in
    let m : 2 ^ (g.l + 1) ≤ 4096 = pow_mono {i = g.l + 1} {j = 12} (omega arith) in
    omega arith

pub returns : goal.returns
returns c =
    let g = c.args in
    let e = sibling-as g.d g.j g.l _ c.requires.2 (shifted g.l (omega arith)) in
    let b = sibling-in g.d g.j g.l c.requires.1 c.requires.2 in
    (e, omega arith)
