-- What `times_alpha`, `limbs` and `xor` ensure, put together.
use mathlib.Core.Path.{ap₂, ◌∙◌}
use lib.Bits.{bit_xor}
use Rattle.field.proofs.window.Goals as goal

pub returns : goal.returns
returns g c = λ h. c.xor.ensures ∙ ap₂ bit_xor c.times_alpha.ensures (c.limbs.ensures (rw (← g.met.F.Field.laws.width) h))
