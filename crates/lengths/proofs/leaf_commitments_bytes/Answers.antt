-- No tree has more than 86,016 leaves, and no leaf commitment more than 96 bytes.
use Prim.Native.Nat.{◌*◌}
use mathlib.Core.Path.{ap₂}
use native.Mathlib.Omega.{arith}
use Rattle.spec.specs.Shapes.{leaf_commitments_bytes}
use Rattle.laws.proofs.Concat.{mul-limit}
use Rattle.lengths.proofs.leaf_commitments_bytes.Goals as goal

pub overflow_mul-result : goal.overflow_mul-result
overflow_mul-result c =
    let l = c.leaf_count-n in
    let m = mul-limit c.commitment_bytes.result l.result 96 86016 c.commitment_bytes.ensures.1 l.ensures.2 in
    omega arith

pub returns : goal.returns
unfolding leaf_commitments_bytes
returns c =
    let l = c.leaf_count-n in
    let m = mul-limit c.commitment_bytes.result l.result 96 86016 c.commitment_bytes.ensures.1 l.ensures.2 in
    (ap₂ ◌*◌ c.commitment_bytes.ensures.0 l.ensures.0, omega arith)
