-- With a number nothing is written; where every test is passed, everything is.
use mathlib.Core.Path.{refl}
use Rattle.refusals.proofs.Numbers.{lengths-passed, commit-uncounted}
use Rattle.refusals.proofs.Outcomes.{numbered}
use Rattle.signer_commit.proofs.Answers.{refused, written}
use Rattle.signer_commit.proofs.commit_stretch.Goals as goal

pub write_commitment-requires : goal.write_commitment-requires
write_commitment-requires c =
    let p = lengths-passed _ _ _ _ _ c.in-Ok.ensures refl in
    let l = p.2 in
    record { s_value = (p.0, p.1, l.0, l.1.0); commitment_len = (l.1.1.0, l.1.1.1.0, l.1.1.1.1.0, l.1.1.1.1.1.0, l.1.1.1.1.1.1.0, l.1.1.1.1.1.1.1.0) }

pub returns-in-Ok : goal.returns-in-Ok
returns-in-Ok c = written _ _ c.resolve-s.ensures _ _ _ _ _ _ c.in-Ok.ensures refl _ refl c.write_commitment.ensures

pub returns-in-Err : goal.returns-in-Err
returns-in-Err c =
    rw c.from.ensures (refused _ _ c.resolve-s.ensures _ _ _ _ _ _ c.in-Err.ensures (commit-uncounted _ _ _ _ _ c.in-Err.ensures) (numbered _))
