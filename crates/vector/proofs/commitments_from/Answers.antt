-- No leaf commitment has more than 96 bytes, and no tree more than 86,016 leaves.
use Prim.Native.Nat.{◌*◌}
use mathlib.Core.Path.{ap₂}
use native.Mathlib.Omega.{arith}
use Rattle.laws.proofs.Concat.{mul-limit}
use Rattle.vector.proofs.commitments_from.Goals as goal

pub overflow_mul-result : goal.overflow_mul-result
overflow_mul-result c =
    let w = c.commitment_bytes in
    let m = mul-limit w.result c.first_entry.result 96 86016 w.ensures.1 c.first_entry.ensures.2 in
    omega arith

pub returns : goal.returns
returns c = ap₂ ◌*◌ c.commitment_bytes.ensures.0 c.first_entry.ensures.0
