-- `aes_steps::unpack` meets its contract by computation.
use native.Mathlib.Nat.{div-one}
use Rattle.spec.specs.Bytes.{tabulate, digits}
use Rattle.aes_steps.proofs.unpack.Goals as goal

pub returns : goal.returns
unfolding tabulate digits
returns c = simp div-one
