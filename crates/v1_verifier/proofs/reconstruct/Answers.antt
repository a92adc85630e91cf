-- With a number nothing is written; where every test is passed, everything is.
use mathlib.Core.Path.{refl, sym}
use Rattle.rules.proofs.RowLength.{row-max}
use Rattle.refusals.proofs.Outcomes.{numbered}
use Rattle.v1_rules.proofs.Numbers.{accepted, row-uncounted}
use Rattle.v1_verifier.proofs.Written.{refused, written}
use Rattle.v1_verifier.proofs.reconstruct.Goals as goal

pub write_reconstruction-requires : goal.write_reconstruction-requires
write_reconstruction-requires c =
    let q = accepted _ _ _ (sym c.in-Ok.ensures) in
    let l = q.2 in
    record { s_value = (q.0, row-max _ q.1); iv_len = (l.0, l.1.0, l.1.1.0, l.1.1.1.0); commitment_len = (l.1.1.1.1.0, l.1.1.1.1.1.0, l.1.1.1.1.1.1.0, l.1.1.1.1.1.1.1.0) }

pub returns-in-Ok : goal.returns-in-Ok
returns-in-Ok c = written _ _ _ _ _ _ _ _ c.in-Ok.ensures refl _ refl c.write_reconstruction.ensures

-- a refusal has the number that the tests give, and no count;
-- what was lent stays as it was
pub returns-in-Err : goal.returns-in-Err
returns-in-Err c = rw c.from.ensures (refused _ _ _ _ _ _ _ _ c.in-Err.ensures (row-uncounted _ _ _ _ c.in-Err.ensures) (numbered _))
