use mathlib.Core.Path.{◌≡◌, ap, subst}
use Prim.Native.Nat.{ℕ, ◌+◌, ◌-◌, ◌≤◌}
use native.Mathlib.Omega.{arith}
use lib.ListN.{get_or}
use Rattle.columns.specs.Columns.{Xored}
use Rattle.columns.proofs.Adding.{xored-none, xored-more, behind-start}
use Rattle.columns.proofs.xor_16.Goals as goal

pub loop-i-init : goal.loop-i-init
loop-i-init c = (omega arith, xored-none _ _ _)

pub overflow_add-d : goal.overflow_add-d
overflow_add-d c = omega arith

pub bounds-d-at : goal.bounds-d-at
bounds-d-at c = omega arith

pub bounds-block-i : goal.bounds-block-i
bounds-block-i c = omega arith

pub overflow_add-d-in-loop-i : goal.overflow_add-d-in-loop-i
overflow_add-d-in-loop-i c = omega arith

pub bounds-d-at-in-loop-i : goal.bounds-d-at-in-loop-i
bounds-d-at-in-loop-i c = omega arith

pub overflow_step-i : goal.overflow_step-i
overflow_step-i c = omega arith

pub loop-i-smaller : goal.loop-i-smaller
loop-i-smaller c = omega arith

pub loop-i-preserved : goal.loop-i-preserved
loop-i-preserved c =
    let g = c.args in
    let l = c.loop-i in
    let f : ℕ → ℕ = λ p. get_or g.block (p - g.at) 0 in
    (omega arith, xored-more g.at l.i _ f g.d.now l.d (omega (arith, l.invariant.1.size)) (ap (λ (n : ℕ). get_or g.block n 0) (behind-start g.at l.i)) l.invariant.1)

pub shape_of-d : goal.shape_of-d
shape_of-d c = c.loop-i.invariant.1.size

pub returns : goal.returns
returns c =
    let g = c.args in
    let l = c.loop-i in
    let e : l.i ≡ 16 = omega arith in
    subst (λ (i : ℕ). Xored g.at (g.at + i) (λ p. get_or g.block (p - g.at) 0) g.d.now l.d) e l.invariant.1
