-- Where the grinding bits are 0 the allowance decides; a list with room for T nodes has room for as many as are let through.
use native.Mathlib.Omega.{arith}
use mathlib.Core.Path.{refl, sym, ap, ◌∙◌}
use mathlib.Core.Bool.{Bool, cond}
use lib.ListN.{take}
use Rattle.planning.proofs.Planned.{planned-front}
use Rattle.refusals.specs.Refusal.{number_of, count_of}
use Rattle.refusals.proofs.Numbers.{grinding-refused, allowance-decides, challenge-passed}
use Rattle.refusals.proofs.Outcomes.{test-passed, test-failed, passed-on}
use Rattle.plan_refusals.proofs.test_challenge.Goals as goal

pub returns-in_err-test : goal.returns-in_err-test
unfolding number_of count_of
returns-in_err-test c =
    let q = test-failed _ _ _ c.in_err-test.ensures in
    rw (passed-on _ _ c.from_residual.ensures, q.1) (grinding-refused _ _ _ (sym c.grinding_ok.ensures ∙ q.0) (refl, refl), λ z room. absurd (omega arith))

pub returns-in_err-test-2 : goal.returns-in_err-test-2
unfolding number_of count_of
returns-in_err-test-2 c =
    let q = test-failed _ _ _ c.in_err-test-2.ensures in
    let clear = sym c.grinding_ok.ensures ∙ test-passed _ _ c.in_ok-test.ensures in
    rw (passed-on _ _ c.from_residual-in_err-test-2.ensures, q.1) (
      allowance-decides _ _ _ _ _ clear c.revealed_nodes-n.ensures.0 (sym (ap (λ (b : Bool). cond b 0 5) q.0)) (refl, refl),
      λ z room. absurd (omega arith),
    )

pub returns : goal.returns
unfolding number_of count_of
returns c =
    let clear = sym c.grinding_ok.ensures ∙ test-passed _ _ c.in_ok-test.ensures in
    let within = test-passed _ _ c.in_ok-test-2.ensures in
    let answer = allowance-decides _ _ _ _ _ clear c.revealed_nodes-n.ensures.0 (sym (ap (λ (b : Bool). cond b 0 5) within)) (refl, refl) in (
      answer,
      λ z room.
          let q = challenge-passed _ _ _ answer z in
          ap (take c.revealed_nodes-n.result) c.revealed_nodes-n.ensures.1 ∙ planned-front _ _ _ _ q.0 (let within = q.1 in omega (arith, room)),
    )
