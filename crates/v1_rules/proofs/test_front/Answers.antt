-- The tests in their order: the first that fails gives the refusal.
use mathlib.Core.Path.{refl}
use Rattle.refusals.specs.Refusal.{number_of}
use Rattle.refusals.proofs.Outcomes.{test-passed, test-failed, last-test, passed-on}
use Rattle.v1_rules.proofs.test_front.Goals as goal

pub returns-in_err-test : goal.returns-in_err-test
unfolding number_of
returns-in_err-test c =
    let q = test-failed _ _ _ c.in_err-test.ensures in
    rw (passed-on _ _ c.from_residual.ensures, q.1, ← c.is_shape.ensures, q.0) refl

pub returns : goal.returns
unfolding number_of
returns c = rw (← c.is_shape.ensures, test-passed _ _ c.in_ok-test.ensures, ← c.is_row_length.ensures) (last-test _ _ _ c.test-2.ensures)
