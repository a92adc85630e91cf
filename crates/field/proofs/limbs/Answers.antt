use Rattle.std.proofs.Common.{◌≡◌, length, refl, ap, ◌∙◌, sym, arith, rules}
use Rattle.std.proofs.Math.ListN.{length-set}
use Rattle.std.proofs.Math.Seq.{take_all}
use Rattle.std.proofs.lemmas.List.{take_more, take_more_set, length-replicate}
use Rattle.spec.specs.Bytes.{number}
use Rattle.field.proofs.Elements.{number-first}
use Rattle.field.proofs.limbs.Goals as goal

pub loop-i-init : goal.loop-i-init
loop-i-init g c = (length-replicate g.row.N 0, refl)

pub loop-i-preserved : goal.loop-i-preserved
loop-i-preserved g c =
    let l = c.loop-i in
    let size : length c.args.x ≡ 12 = search rules in (
      simp length-set l.invariant.0,
      take_more_set l.r l.i _ (omega arith) ∙ rw l.invariant.1 (sym (take_more c.args.x l.i 0 (omega arith))),
    )

pub returns : goal.returns
returns g c = λ h.
    let l = c.loop-i in
    let end : l.i ≡ g.row.N = omega arith in
    let whole = rw (take_all l.i l.r (omega arith), end) at l.invariant.1 in
    ap (number 64) whole ∙ number-first g.row.N c.args.x h
