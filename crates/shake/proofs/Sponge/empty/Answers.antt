-- By the law of a sponge that holds nothing, which holds at every rate.
use mathlib.Core.Path.{refl}
use Rattle.spec.specs.Bytes.{zeros}
use Rattle.shake.proofs.Absorbing.{holds-none}
use Rattle.shake.proofs.Sponge.empty.Goals as goal

pub returns-clause-holds : goal.returns-clause-holds
unfolding zeros
returns-clause-holds c = (λ r h. holds-none r h, refl)
