-- With a number nothing is written; where every test is passed, the opening is.
use mathlib.Core.Path.{refl, sym}
use Rattle.refusals.proofs.Outcomes.{numbered}
use Rattle.v1_rules.proofs.Numbers.{shape-parts, open-accepted, open-uncounted}
use Rattle.v1_signer.proofs.Written.{open-refused, open-written}
use Rattle.v1_signer.proofs.open.Goals as goal

pub write_opening-requires : goal.write_opening-requires
write_opening-requires c =
    let q = open-accepted _ _ (sym c.in-Ok.ensures) in
    let p = shape-parts _ q.0 in
    let l = q.1 in
    record { s_value = (p.0, p.1, l.0); trees_len = (l.1.0, l.1.1.0, l.1.1.1.0) }

pub returns-in-Ok : goal.returns-in-Ok
returns-in-Ok c = open-written _ _ _ _ _ _ c.in-Ok.ensures refl _ refl c.write_opening.ensures

pub returns-in-Err : goal.returns-in-Err
returns-in-Err c = rw c.from.ensures (open-refused _ _ _ _ _ _ c.in-Err.ensures (open-uncounted _ _ _ c.in-Err.ensures) (numbered _))
