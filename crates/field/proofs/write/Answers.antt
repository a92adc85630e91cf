use borrow.Author.Rules.{rules}
use mathlib.Core.Path.{refl}
use native.Mathlib.Omega.{arith}
use mir.Syntax.{w8, w64}
use Rattle.spec.specs.Bytes.{tabulate}
use Rattle.laws.proofs.Limbs.{fits-digits}
use Rattle.field.proofs.Elements.{written_next, written_all}
use Rattle.field.proofs.write.Goals as goal

pub loop-i-init : goal.loop-i-init
unfolding tabulate
loop-i-init g c = (refl, refl)

pub loop-i-preserved : goal.loop-i-preserved
loop-i-preserved g c =
    let a = c.args in
    let l = c.loop-i in
    let call = c.write_limb in
    written_next g.row.N a.x a.y.now a.out.now l.out _ l.i (fits-digits w64 a.x (λ k. search rules)) (fits-digits w8 a.y.now (λ k. search rules)) (omega arith) call.auto.out call.ensures
    l.invariant

pub returns : goal.returns
returns g c =
    let l = c.loop-i in
    let a = c.args in
    written_all g.row.N a.x a.y.now a.out.now l.out l.i (omega arith) (omega arith) l.invariant
