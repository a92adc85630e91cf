-- The front is read, and the lengths are those of the resolved shape and its rows.
use native.Mathlib.Omega.{arith}
use mathlib.Core.Path.{refl, ap, ap₂, ◌∙◌}
use borrow.Author.Tests.{ne_eqb}
use Rattle.spec.specs.Shapes.{tree_bytes, leaf_commitments_bytes, matrix_bytes}
use Rattle.record_reading.specs.Front.{number_of}
use Rattle.record_reading.proofs.Fronts.{numbered}
use Rattle.broker.proofs.work_lengths.Goals as goal

pub tree_bytes-requires : goal.tree_bytes-requires
tree_bytes-requires c = c.in-Ok.ensures.said.allowed

pub leaf_commitments_bytes-requires : goal.leaf_commitments_bytes-requires
leaf_commitments_bytes-requires c = c.in-Ok.ensures.said.allowed

pub matrix_bytes-requires : goal.matrix_bytes-requires
matrix_bytes-requires c = (let p = c.in-Ok.ensures.said in (p.allowed, p.few))

pub returns-in-Ok : goal.returns-in-Ok
returns-in-Ok c =
    let p = c.in-Ok.ensures.said in
    record {
      number = c.in-Ok.ensures.number;
      tree = c.tree_bytes.ensures.0 ∙ ap tree_bytes p.resolved;
      leaf_commitments = c.leaf_commitments_bytes.ensures.0 ∙ ap leaf_commitments_bytes p.resolved;
      q = c.matrix_bytes.ensures.0 ∙ ap₂ matrix_bytes p.resolved p.bytes;
      most = (c.tree_bytes.ensures.1, c.leaf_commitments_bytes.ensures.1, c.matrix_bytes.ensures.1);
    }

pub returns-in-Err : goal.returns-in-Err
returns-in-Err c =
    let z = ne_eqb (number_of c.in-Err.refusal) 0 (numbered c.in-Err.refusal) in
    rw c.number.ensures (record { number = c.in-Err.ensures.number; tree = rw z refl; leaf_commitments = rw z refl; q = rw z refl; most = (omega arith, omega arith, omega arith) })
