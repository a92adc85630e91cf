-- The law of two bytes.
use native.Mathlib.Omega.{arith}
use Rattle.record.proofs.Numbers.{two_bytes}
use Rattle.record_fields.proofs.number2.Goals as goal

pub returns : goal.returns
returns c =
    let g = c.args in
    omega (arith, two_bytes g.bytes.now g.at (omega arith))
