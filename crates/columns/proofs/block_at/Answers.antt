use mathlib.Core.Path.{refl}
use Prim.Native.Nat.{◌+◌, ◌-◌, ◌≤◌}
use native.Mathlib.Omega.{arith}
use lib.ListN.{get_or}
use Rattle.laws.proofs.Front.{front-none, front-set, front-all}
use Rattle.columns.proofs.block_at.Goals as goal

pub loop-i-init : goal.loop-i-init
loop-i-init c = (omega arith, front-none _ _)

pub overflow_add-block : goal.overflow_add-block
overflow_add-block c = omega arith

pub bounds-d-at : goal.bounds-d-at
bounds-d-at c = omega arith

pub bounds-block-i : goal.bounds-block-i
bounds-block-i c = omega arith

pub overflow_step-i : goal.overflow_step-i
overflow_step-i c = omega arith

pub loop-i-smaller : goal.loop-i-smaller
loop-i-smaller c = omega arith

pub loop-i-preserved : goal.loop-i-preserved
loop-i-preserved c =
    let g = c.args in
    let l = c.loop-i in
    (omega arith, front-set (λ p. get_or g.d.now (g.at + p) 0) 16 l.i l.block _ (omega arith) l.invariant.1 refl)

pub returns : goal.returns
returns c = front-all _ 16 c.loop-i.i c.loop-i.block (omega arith) c.loop-i.invariant.1
