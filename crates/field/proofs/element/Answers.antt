use borrow.Author.Rules.{rules}
use native.Mathlib.Omega.{arith}
use lib.Seq.{take_all}
use mir.Syntax.{w8}
use Rattle.spec.specs.Bytes.{number, zeros}
use Rattle.laws.proofs.Limbs.{fits-digits}
use Rattle.laws.proofs.Lists.{length-zeros}
use Rattle.laws.proofs.Strings.{digits-zeros}
use Rattle.field.proofs.Elements.{joined-next, number-zeros}
use Rattle.field.proofs.element.Goals as goal

pub loop-p-init : goal.loop-p-init
unfolding number zeros
loop-p-init g c = (length-zeros g.row.N, digits-zeros 64 g.row.N, number-zeros g.row.N)

pub loop-p-preserved : goal.loop-p-preserved
loop-p-preserved g c =
    let l = c.loop-p in
    let s = c.args.s.now in
    joined-next g.row.N s l.r l.p c.requires (fits-digits w8 s (λ k. search rules)) (omega arith) l.invariant

pub returns : goal.returns
returns g c = rw (take_all c.loop-p.p c.args.s.now (omega arith)) at c.loop-p.invariant.2
