-- What `hash` ensures, with the byte of H1.
use Rattle.spec.specs.Hashes.{hash1}
use Rattle.shake.proofs.Sponge.h1.Goals as goal

pub returns : goal.returns
unfolding hash1
returns c = c.hash.ensures
