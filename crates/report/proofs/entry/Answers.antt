-- A number of the front stops the reading; else the entry is that of what stands behind the front.
use mathlib.Core.Path.{◌≡◌, sym, ap, ◌∙◌}
use lib.ListN.{length}
use Rattle.record.specs.Record.{head_number}
use Rattle.record.proofs.Reading.{front-decides-fields}
use Rattle.record_reading.proofs.Fronts.{numbered}
use Rattle.report_text.proofs.Entries.{entry-stops}
use Rattle.report.proofs.Answers.{stopped}
use Rattle.report.proofs.entry.Goals as goal

pub entry_behind-requires : goal.entry_behind-requires
entry_behind-requires c = c.in-Ok.ensures.said

pub returns-in-Ok : goal.returns-in-Ok
returns-in-Ok c = c.entry_behind.ensures

pub returns-in-Err : goal.returns-in-Err
returns-in-Err c =
    let xs = c.args.bytes.now in
    let n = c.in-Err.ensures.number in
    let bad : head_number xs ≡ 0 → ⊥ = λ z. numbered _ (n ∙ z) in
    let e = front-decides-fields xs bad in
    c.refused.ensures ∙ ap (stopped (length xs)) (c.number.ensures ∙ n ∙ sym e) ∙ sym (entry-stops xs (λ z. bad (sym e ∙ z)))
