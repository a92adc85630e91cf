-- The entry by what the tests of the opening give.
use mathlib.Core.Path.{ap, ◌∙◌}
use Rattle.refusals.proofs.Outcomes.{numbered}
use Rattle.report.proofs.Answers.{stopped, entry-refused, entry-passed, within}
use Rattle.report.proofs.opened.Goals as goal

pub overflow_sub-result : goal.overflow_sub-result
overflow_sub-result c = (let a = c.args in within a.f.resolved a.challenge.now a.opening.now a.bytes c.in-Ok.n c.in-Ok.ensures)

pub returns-in-Ok : goal.returns-in-Ok
returns-in-Ok c =
    let a = c.args in
    entry-passed a.f.resolved a.challenge.now a.opening.now a.bytes c.in-Ok.n c.in-Ok.ensures

pub returns-in-Err : goal.returns-in-Err
returns-in-Err c =
    let a = c.args in
    c.refused.ensures ∙ ap (stopped a.bytes) c.number.ensures ∙ entry-refused a.f.resolved a.challenge.now a.opening.now a.bytes _ c.in-Err.ensures.0 (numbered _)
