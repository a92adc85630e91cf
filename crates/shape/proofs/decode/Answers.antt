-- With a number nothing is written; where every test is passed, the list is.
use mathlib.Core.Path.{refl}
use Rattle.refusals.proofs.Numbers.{decode-accepted, decode-uncounted}
use Rattle.refusals.proofs.Outcomes.{numbered}
use Rattle.shape.proofs.Answers.{decode-refused, decode-written}
use Rattle.shape.proofs.decode.Goals as goal

pub write_indices-requires : goal.write_indices-requires
write_indices-requires c = (let q = decode-accepted _ _ _ _ c.in-Ok.ensures refl in (q.0, q.1.0, q.1.1.0))

pub returns-in-Ok : goal.returns-in-Ok
returns-in-Ok c = decode-written _ _ c.resolve-s.ensures _ _ _ c.in-Ok.ensures refl _ refl c.write_indices.ensures

pub returns-in-Err : goal.returns-in-Err
returns-in-Err c =
    rw c.from.ensures (decode-refused _ _ c.resolve-s.ensures _ _ _ c.in-Err.ensures (decode-uncounted _ _ _ _ c.in-Err.ensures) (numbered _))
