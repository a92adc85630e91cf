-- Where the shape and the lengths are passed the grinding bits decide.
use mathlib.Core.Path.{refl}
use Rattle.refusals.specs.Refusal.{number_of}
use Rattle.refusals.proofs.Numbers.{sizes-passed, decode-stops, grinding-decides}
use Rattle.refusals.proofs.Outcomes.{numbered, last-test, passed-on}
use Rattle.plan_refusals.proofs.test_decode.Goals as goal

pub returns-in_err-test_list : goal.returns-in_err-test_list
returns-in_err-test_list c = rw (passed-on _ _ c.from_residual.ensures) (decode-stops _ _ _ c.in_err-test_list.ensures _ (numbered _))

pub grinding_ok-requires : goal.grinding_ok-requires
grinding_ok-requires c = (let q = sizes-passed _ _ _ c.in_ok-test_list.ensures refl in (q.0, q.1.0))

pub returns : goal.returns
unfolding number_of
returns c = grinding-decides _ _ _ c.in_ok-test_list.ensures _ _ refl (rw c.grinding_ok.ensures at (last-test _ _ _ c.test.ensures))
