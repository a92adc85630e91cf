-- The bits of the vectors are at most the level's.
use Prim.Native.Nat.{ℕ, ◌+◌, ◌*◌, ◌≤◌, min}
use native.Mathlib.Omega.{arith}
use native.Mathlib.Nat.{mul-le-mul, le_refl}
use Rattle.spec.specs.declared.Shape.{Shape}
use Rattle.spec.specs.Shapes.{level, deeper, first_bit}
use Rattle.planning_laws.proofs.ShapeFacts.{ShapeFacts, shape-facts, widths}
use Rattle.rules.proofs.first_bit.Goals as goal

small : (s : Shape) (i : ℕ) → ShapeFacts s → i ≤ s.tau → (i * s.k + min i (deeper s) ≤ level s) × (level s ≤ 256)
small s i f h = (let m : i * s.k ≤ s.tau * s.k = mul-le-mul h (le_refl s.k) in (omega (arith, f.total), (widths s f).level-max))

pub overflow_mul-result : goal.overflow_mul-result
overflow_mul-result c =
    let a = c.args in
    let m = small a.s a.i (shape-facts a.s c.requires.0) c.requires.1 in
    omega arith

pub overflow_add-result : goal.overflow_add-result
overflow_add-result c =
    let a = c.args in
    let m = small a.s a.i (shape-facts a.s c.requires.0) c.requires.1 in
    let r = c.deeper_count.ensures.0 in
    let n = c.min.ensures in
    omega arith

pub returns : goal.returns
unfolding first_bit
returns c =
    let a = c.args in
    let m = small a.s a.i (shape-facts a.s c.requires.0) c.requires.1 in
    let r = c.deeper_count.ensures.0 in
    let n = c.min.ensures in
    (omega arith, omega arith, omega arith)
