-- The shift is by at most 16.
use Prim.Native.Nat.{◌-◌, ◌*◌, ◌^◌, ◌<◌, ◌≤◌}
use mathlib.Core.Path.{◌∙◌}
use native.Mathlib.Omega.{arith}
use native.Mathlib.Nat.{mod-eq_of_lt, one-mul}
use lib.Pow.{pow_mono, pow_pos}
use Rattle.spec.specs.Shapes.{level}
use Rattle.planning_laws.proofs.ShapeFacts.{shape-facts}
use Rattle.enumeration.proofs.Readings.{open_is, level-128}
use Rattle.enumeration.proofs.line_count.Goals as goal

pub overflow_sub-result : goal.overflow_sub-result
unfolding level
overflow_sub-result c = (omega (arith, level-128 c.args.s c.requires.0 c.requires.1, (shape-facts c.args.s c.requires.0).w-max))

pub overflow_shl-result : goal.overflow_shl-result
overflow_shl-result c = (omega (arith, c.requires.1, open_is c.args.s))

pub returns : goal.returns
returns c =
    let s = c.args.s in
    let d = s.level - s.w in
    let l : d ≤ 16 = omega (arith, c.requires.1, open_is s) in
    let m : 2 ^ d ≤ 65536 = pow_mono l in
    let p = pow_pos d in
    let o = one-mul (2 ^ d) in
    let h : 1 * 2 ^ d < 2 ^ 64 = omega arith in
    rw (open_is s) (mod-eq_of_lt h ∙ o, omega (arith, mod-eq_of_lt h), omega (arith, mod-eq_of_lt h))
