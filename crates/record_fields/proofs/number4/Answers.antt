-- The law of four bytes.
use native.Mathlib.Omega.{arith}
use Rattle.record.proofs.Numbers.{four_bytes}
use Rattle.record_fields.proofs.number4.Goals as goal

pub returns : goal.returns
returns c =
    let g = c.args in
    omega (arith, four_bytes g.bytes.now g.at (omega arith))
