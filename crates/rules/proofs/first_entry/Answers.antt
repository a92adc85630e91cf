-- The entries of the vectors are at most 86,016.
use Prim.Native.Nat.{ℕ, ◌+◌, ◌*◌, ◌^◌, ◌≤◌, ◌<◌, min}
use mathlib.Core.Path.{◌≡◌, ap, ◌∙◌}
use native.Mathlib.Omega.{arith}
use native.Mathlib.Nat.{mul-le-mul, le_refl, mod-eq_of_lt}
use Rattle.spec.specs.declared.Shape.{Shape}
use Rattle.spec.specs.Shapes.{deeper, first_entry, leaves}
use Rattle.planning_laws.proofs.ShapeFacts.{ShapeFacts, shape-facts, leaves-max}
use Rattle.rules.proofs.first_entry.Goals as goal

within : (s : Shape) (i : ℕ) → ShapeFacts s → i ≤ s.tau → (first_entry s i ≤ leaves s) × (leaves s ≤ 86016)
unfolding first_entry leaves
within s i f h =
    (mul-le-mul (let z : i + min i (deeper s) ≤ s.tau + deeper s = omega arith in z) (le_refl (2 ^ s.k)), leaves-max s f)

pub overflow_add-result : goal.overflow_add-result
overflow_add-result c =
    let a = c.args in
    let f = shape-facts a.s c.requires.0 in
    let h = c.requires.1 in
    let n = c.min.ensures in
    omega (arith, f.tau-max)

pub overflow_shl-result : goal.overflow_shl-result
overflow_shl-result c = (let f = shape-facts c.args.s c.requires.0 in omega (arith, f.k-max))

pub returns : goal.returns
unfolding first_entry
returns c =
    let a = c.args in
    let s = a.s in
    let f = shape-facts s c.requires.0 in
    let m = within s a.i f c.requires.1 in
    let same : (a.i + c.min.result) * 2 ^ s.k ≡ first_entry s a.i =
    ap (λ (n : ℕ). (a.i + n) * 2 ^ s.k) (c.min.ensures ∙ ap (min a.i) c.deeper_count.ensures.0) in
    let h : (a.i + c.min.result) * 2 ^ s.k < 2 ^ 64 = omega arith in
    let e = mod-eq_of_lt h in
    (e ∙ same, omega arith, omega arith)
