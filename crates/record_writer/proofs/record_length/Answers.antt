-- Each way out by the tests that led there.
use Prim.Native.Nat.{◌/◌}
use native.Mathlib.Omega.{arith}
use mathlib.Core.Path.{refl, ap, ◌∙◌}
use borrow.Author.Tests.{ne_eqb}
use Rattle.rules.proofs.RowLength.{row-max}
use Rattle.record.specs.Record.{record_bytes}
use Rattle.record.specs.RecordCalls.{length_number}
use Rattle.refusals.specs.Refusal.{number_of}
use Rattle.refusals.proofs.Lists.{passed-all}
use Rattle.refusals.proofs.Outcomes.{numbered}
use Rattle.record_writer.specs.Tests.{row_tests}
use Rattle.record_writer.proofs.record_length.Goals as goal

pub record_length-requires : goal.record_length-requires
record_length-requires c = (let q = passed-all (row_tests _ _) (refl, (refl, tt)) _ c.in-Ok.ensures refl in (q.0, row-max _ q.1.0))

pub returns-in-Ok : goal.returns-in-Ok
unfolding length_number
returns-in-Ok c =
    record {
      number = rw c.resolve-s.ensures at c.in-Ok.ensures;
      bytes = c.record_length.ensures.0 ∙ ap (λ s. record_bytes s (c.args.row_bits / 8)) c.resolve-s.ensures;
      most = c.record_length.ensures.1;
    }

pub returns-in-Err : goal.returns-in-Err
unfolding length_number
returns-in-Err c =
    let z = ne_eqb (number_of c.in-Err.refusal) 0 (numbered c.in-Err.refusal) in
    rw c.number.ensures (record { number = rw c.resolve-s.ensures at c.in-Err.ensures; bytes = rw z refl; most = omega arith })
