-- The code reads the byte and the bit as the definition does.
use mathlib.Core.Path.{refl}
use Rattle.spec.specs.Challenge.{bit_at}
use Rattle.challenge.proofs.bit.Goals as goal

pub returns : goal.returns
unfolding bit_at
returns c = refl
