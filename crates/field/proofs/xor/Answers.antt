use borrow.Author.Rules.{rules}
use mathlib.Core.Path.{refl}
use native.Mathlib.Omega.{arith}
use mir.Syntax.{w64}
use Rattle.spec.specs.Bytes.{number, zeros}
use Rattle.laws.proofs.Limbs.{fits-digits}
use Rattle.laws.proofs.Lists.{length-zeros}
use Rattle.field.proofs.Elements.{summed-next, summed-all}
use Rattle.field.proofs.xor.Goals as goal

pub loop-i-init : goal.loop-i-init
unfolding number zeros
loop-i-init g c = (length-zeros g.row.N, refl)

pub loop-i-preserved : goal.loop-i-preserved
loop-i-preserved g c =
    let l = c.loop-i in
    let a = c.args.a in
    let b = c.args.b in
    summed-next g.row.N a b l.r l.i (search rules) (search rules) (fits-digits w64 a (λ k. search rules)) (fits-digits w64 b (λ k. search rules)) (omega arith) l.invariant

pub returns : goal.returns
returns g c =
    let l = c.loop-i in
    let a = c.args in
    summed-all g.row.N a.a a.b l.r l.i (search rules) (search rules) (omega arith) l.invariant
