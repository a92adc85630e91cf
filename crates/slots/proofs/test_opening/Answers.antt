-- Where the challenge is passed the slots behind its nodes decide.
use mathlib.Core.Path.{refl, sym, ap}
use mathlib.Core.Bool.{Bool, cond}
use Rattle.refusals.specs.Refusal.{number_of, count_of}
use Rattle.refusals.proofs.Numbers.{challenge-passed, challenge-stops, slots-decide}
use Rattle.refusals.proofs.Outcomes.{numbered, test-passed, test-failed, passed-on}
use Rattle.slots.proofs.test_opening.Goals as goal

pub test_challenge-requires : goal.test_challenge-requires
test_challenge-requires c = (let p = c.requires in (p.0, p.1))

pub returns-in_err-n : goal.returns-in_err-n
returns-in_err-n c = rw (passed-on _ _ c.from_residual.ensures) (challenge-stops _ _ _ _ c.in_err-n.ensures.0 (numbered _))

pub slots_clear-requires : goal.slots_clear-requires
slots_clear-requires c =
    let p = c.requires in
    (p.0, (challenge-passed _ _ _ c.in_ok-n.ensures.0 refl).1, p.2)

pub returns-in_err-test : goal.returns-in_err-test
unfolding number_of count_of
returns-in_err-test c =
    let q = test-failed _ _ _ c.in_err-test.ensures in
    rw (passed-on _ _ c.from_residual-in_err-test.ensures, q.1) (
    slots-decide _ _ _ _ c.in_ok-n.ensures.0 _ _ _ refl c.slots_clear.ensures (sym (ap (λ (b : Bool). cond b 0 6) q.0)) (refl, refl)
    )

pub returns : goal.returns
unfolding number_of count_of
returns c =
    let clear = test-passed _ _ c.in_ok-test.ensures in
    slots-decide _ _ _ _ c.in_ok-n.ensures.0 _ _ _ refl c.slots_clear.ensures (sym (ap (λ (b : Bool). cond b 0 6) clear)) (refl, refl)
