-- Of the nodes at or after x, x is the last, if it is in the list.
use mathlib.Core.Path.{sym, ap, ◌∙◌}
use Prim.Native.Nat.{ℕ, ◌-◌}
use native.Mathlib.Omega.{arith}
use lib.Dec.{eqb}
use lib.ListN.{get_or}
use Rattle.verifier_tree.proofs.Places.{after-most, after_none, after_last}
use Rattle.verifier_tree.proofs.is_next.Goals as goal

pub returns-then-left-eq0 : goal.returns-then-left-eq0
returns-then-left-eq0 c =
    let g = c.args in
    let p = c.requires in
    sym (after_none g.nodes.now g.x p.0 (omega arith))

pub offset_bounds-nodes-left : goal.offset_bounds-nodes-left
offset_bounds-nodes-left c = (let g = c.args in let m = after-most g.nodes.now g.x in omega arith)

pub bounds-nodes-left : goal.bounds-nodes-left
bounds-nodes-left c = (let g = c.args in let m = after-most g.nodes.now g.x in omega arith)

pub returns : goal.returns
returns c =
    let g = c.args in
    let p = c.requires in
    ap (λ (y : ℕ). eqb y g.x) c.wide.ensures
    ∙ ap (λ (i : ℕ). eqb (get_or g.nodes.now (i - 1) 0) g.x) p.1
    ∙ after_last g.nodes.now g.x p.0 (omega arith)
