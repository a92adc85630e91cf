-- Each way out is one law of the sets' `Numbers`, by the tests that led there.
use mathlib.Core.Path.{sym, ap₂, ◌∙◌}
use Rattle.laws.proofs.Tests.{failed, passed}
use Rattle.std.proofs.lemmas.Result.{err_from_is_err_and}
use Rattle.named_sets.specs.NamedSets.{named_ok}
use Rattle.named_sets.proofs.Numbers.{front-head, front-thirteen, front-named}
use Rattle.record_reading.specs.Front.{number_of}
use Rattle.record_reading.proofs.Fronts.{numbered}
use Rattle.named_broker.proofs.named_front.Goals as goal

pub returns-in_err-f : goal.returns-in_err-f
returns-in_err-f c =
    let p = err_from_is_err_and c.from_residual.result c.from_residual.ensures.1 in
    let n = c.in_err-f.ensures.number in
    rw (p.1, p.2) (record { number = n ∙ sym (front-head _ (λ z. numbered _ (n ∙ z))); said = tt })

pub returns-then-not-is_named : goal.returns-then-not-is_named
unfolding number_of
returns-then-not-is_named c =
    let f = c.in_ok-f.ensures.said in
    record { number = sym (front-thirteen _ f.read (failed (c.is_named.ensures ∙ ap₂ named_ok f.shape f.row) c.if-not-is_named.true)); said = tt }

pub returns : goal.returns
returns c =
    let f = c.in_ok-f.ensures.said in
    record { number = sym (front-named _ f.read (passed (c.is_named.ensures ∙ ap₂ named_ok f.shape f.row) c.if-not-is_named.false)); said = f }
