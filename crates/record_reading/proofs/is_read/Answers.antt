-- Behind a front that is read the fields and the end decide.
use mathlib.Core.Path.{refl, ◌∙◌}
use Rattle.record.proofs.Reading.{end-decides}
use Rattle.record_reading.proofs.Fronts.{there, missing}
use Rattle.record_reading.proofs.is_read.Goals as goal

pub returns-in-Ok : goal.returns-in-Ok
returns-in-Ok c =
    let q = there _ _ _ c.in-Ok.ensures in
    end-decides _ c.requires.read ∙ rw (q.0, q.1) refl

pub returns-in-Err : goal.returns-in-Err
returns-in-Err c = end-decides _ c.requires.read ∙ rw (missing _ _ _ c.in-Err.ensures) refl
