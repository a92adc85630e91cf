-- The call of the stretch that is the whole row.
use Rattle.spec.specs.Primitives.{faest}
use Rattle.laws.proofs.Calls.{reconstruct-whole}
use Rattle.verifier.proofs.reconstruct.Goals as goal

pub returns : goal.returns
returns c = reconstruct-whole faest _ _ _ _ _ _ _ _ _ c.reconstruct_stretch.ensures
