-- A front that is refused is one law of `Answers`; the rest is what `check_read` promises.
use Rattle.record_check.proofs.Answers.{check-refused}
use Rattle.record_check.proofs.check_front.Goals as goal

pub returns-in-Err : goal.returns-in-Err
returns-in-Err c = check-refused _ _ _ _ (rw c.in-Err.is at c.requires.number) c.from.ensures
