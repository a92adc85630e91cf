-- Where a field is missing the reading stops; else the fields are there, and their entry is the record's.
use native.Mathlib.Omega.{arith}
use Prim.Native.Nat.{ℕ}
use mathlib.Core.Path.{◌≡◌, sym, ap, ◌∙◌}
use mathlib.Core.Bool.{Bool, cond}
use lib.ListN.{length}
use Rattle.record.specs.Record.{fields_number}
use Rattle.record.proofs.Reading.{fields-decide}
use Rattle.record_reading.specs.Front.{number_of}
use Rattle.record_reading.proofs.Fronts.{there, missing}
use Rattle.report_text.proofs.Entries.{entry-stops}
use Rattle.report.proofs.Answers.{stopped}
use Rattle.report.proofs.entry_behind.Goals as goal

abbrev number_by : Bool → ℕ
number_by b = cond b 0 10

pub sizes_of-z-requires : goal.sizes_of-z-requires
sizes_of-z-requires c = (c.requires.allowed, c.requires.few)

pub rest-requires : goal.rest-requires
rest-requires c = c.sizes_of-z.ensures _ c.requires

pub open_fields-requires : goal.open_fields-requires
open_fields-requires c =
    let q = there _ _ _ c.in-Ok.ensures in
    (c.requires, c.sizes_of-z.ensures _ c.requires, fields-decide _ c.requires.read ∙ ap number_by q.0, q.1)

pub returns-in-Ok : goal.returns-in-Ok
returns-in-Ok c = c.open_fields.ensures

pub returns-in-Err : goal.returns-in-Err
unfolding number_of
returns-in-Err c =
    let xs = c.args.bytes.now in
    let e : fields_number xs ≡ 10 = fields-decide xs c.requires.read ∙ ap number_by (missing _ _ _ c.in-Err.ensures) in
    c.refused.ensures ∙ ap (stopped (length xs)) (c.number.ensures ∙ sym e) ∙ sym (entry-stops xs (λ z. let k = sym e ∙ z in omega arith))
