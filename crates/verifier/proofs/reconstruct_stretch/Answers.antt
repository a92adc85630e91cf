-- With a number nothing is written; where every test is passed, everything is.
use mathlib.Core.Path.{refl}
use Rattle.refusals.proofs.Numbers.{reconstruct-accepted}
use Rattle.refusals.proofs.Outcomes.{numbered}
use Rattle.verifier.proofs.Answers.{refused, written}
use Rattle.verifier.proofs.reconstruct_stretch.Goals as goal

pub test_reconstruct-requires : goal.test_reconstruct-requires
test_reconstruct-requires c = (refl, refl)

pub write_reconstruction-requires : goal.write_reconstruction-requires
write_reconstruction-requires c =
    let p = reconstruct-accepted _ _ _ _ _ _ _ c.in-Ok.ensures refl in
    let l = p.1 in
    record { s_value = p.0; iv_len = (l.0, l.1.0, l.1.1.0, l.1.1.1.0); commitment_len = (l.1.1.1.1.0, l.1.1.1.1.1.0, l.1.1.1.1.1.1.0, l.1.1.1.1.1.1.1.0) }

pub returns-in-Ok : goal.returns-in-Ok
returns-in-Ok c = written _ _ c.resolve-s.ensures _ _ _ _ _ _ _ _ c.in-Ok.ensures _ refl c.write_reconstruction.ensures

pub returns-in-Err : goal.returns-in-Err
returns-in-Err c = rw c.from.ensures (refused _ _ c.resolve-s.ensures _ _ _ _ _ _ _ _ c.in-Err.ensures (numbered _))
