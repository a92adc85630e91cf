-- The shift does not leave the word.
use Prim.Native.Nat.{◌*◌, ◌^◌, ◌<◌, ◌≤◌}
use mathlib.Core.Path.{◌∙◌}
use native.Mathlib.Omega.{arith}
use native.Mathlib.Nat.{mod-eq_of_lt, one-mul}
use lib.Pow.{pow_mono, pow_pos}
use Rattle.rules.proofs.power.Goals as goal

pub returns : goal.returns
returns c =
    let d = c.args.d in
    let m : 2 ^ d ≤ 4096 = pow_mono c.requires in
    let p = pow_pos d in
    let o = one-mul (2 ^ d) in
    let h : 1 * 2 ^ d < 2 ^ 64 = omega arith in
    let z = mod-eq_of_lt h in
    (z ∙ o, omega arith, omega arith)
