-- Where the front is passed the lengths decide.
use mathlib.Core.Path.{refl}
use Rattle.rules.proofs.RowLength.{row-max}
use Rattle.refusals.specs.Refusal.{number_of}
use Rattle.refusals.proofs.Outcomes.{numbered, last-test, passed-on}
use Rattle.v1_rules.proofs.Numbers.{shape-parts, front-stops, front-passed, lengths-decide}
use Rattle.v1_verifier.proofs.test_reconstruct.Goals as goal

pub returns-in_err-test_front : goal.returns-in_err-test_front
returns-in_err-test_front c = rw (passed-on _ _ c.from_residual.ensures) (front-stops _ _ _ _ c.in_err-test_front.ensures (numbered _))

pub reconstruct_fits-requires : goal.reconstruct_fits-requires
reconstruct_fits-requires c = (let q = front-passed _ _ _ c.in_ok-test_front.ensures refl in ((shape-parts _ q.0).0, row-max _ q.1))

pub returns : goal.returns
unfolding number_of
returns c = lengths-decide _ _ _ _ _ c.in_ok-test_front.ensures refl (rw c.reconstruct_fits.ensures at (last-test _ _ _ c.test.ensures))
