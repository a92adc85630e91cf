-- With a number nothing is written; where every test is passed, everything is.
use mathlib.Core.Path.{refl, sym}
use Rattle.rules.proofs.RowLength.{row-max}
use Rattle.refusals.proofs.Outcomes.{numbered}
use Rattle.v1_rules.proofs.Numbers.{accepted, row-uncounted}
use Rattle.v1_signer.proofs.Written.{commit-refused, commit-written}
use Rattle.v1_signer.proofs.commit.Goals as goal

pub write_commitment-requires : goal.write_commitment-requires
write_commitment-requires c =
    let q = accepted _ _ _ (sym c.in-Ok.ensures) in
    let l = q.2 in
    record { s_value = (q.0, row-max _ q.1, l.0, l.1.0); commitment_len = (l.1.1.0, l.1.1.1.0, l.1.1.1.1.0, l.1.1.1.1.1.0, l.1.1.1.1.1.1.0, l.1.1.1.1.1.1.1.0) }

pub returns-in-Ok : goal.returns-in-Ok
returns-in-Ok c = commit-written _ _ _ _ _ _ c.in-Ok.ensures refl _ refl c.write_commitment.ensures

pub returns-in-Err : goal.returns-in-Err
returns-in-Err c = rw c.from.ensures (commit-refused _ _ _ _ _ _ c.in-Err.ensures (row-uncounted _ _ _ _ c.in-Err.ensures) (numbered _))
