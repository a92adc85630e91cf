use borrow.Author.Rules.{rules}
use mathlib.Core.Path.{sym}
use Prim.Native.Nat.{◌^◌}
use native.Mathlib.Nat.{lt_of_lt_of_le, zero-mul}
use native.Mathlib.Omega.{arith}
use lib.Pow.{pow_pos, pow_mono}
use mir.Syntax.{w64}
use Rattle.spec.specs.Bytes.{number, zeros}
use Rattle.laws.proofs.Limbs.{fits-digits}
use Rattle.laws.proofs.Lists.{length-zeros}
use Rattle.laws.proofs.Strings.{digits-zeros}
use Rattle.field.proofs.Elements.{shifted_next, shifted-all}
use Rattle.field.proofs.times_alpha.Goals as goal

pub loop-i-init : goal.loop-i-init
unfolding number zeros
loop-i-init g c = (length-zeros g.row.N, digits-zeros 64 g.row.N, pow_pos c.args.n, sym (zero-mul (2 ^ c.args.n)))

pub loop-i-preserved : goal.loop-i-preserved
loop-i-preserved g c =
    let l = c.loop-i in
    let x = c.args.x in
    shifted_next g.row.N c.args.n x l.r l.carry l.i (search rules) (fits-digits w64 x (λ k. search rules)) (omega arith) (omega arith) l.invariant

pub reduce-requires : goal.reduce-requires
reduce-requires g c = lt_of_lt_of_le c.loop-i.invariant.2 (pow_mono {j = 4} (omega arith))

pub returns : goal.returns
returns g c =
    let l = c.loop-i in
    let x = c.args.x in
    shifted-all g.met.F.Field.laws c.args.n x l.r l.carry l.i c.reduce.result (search rules) (fits-digits w64 x (λ k. search rules)) (omega arith) (omega arith)
    c.reduce.ensures l.invariant
