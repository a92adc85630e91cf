-- What `squeeze` ensures, of the message with the last byte.
use mathlib.Core.List.{[], ◌∷◌, ◌++◌}
use Rattle.shake.proofs.Sponge.hash.Goals as goal

pub returns : goal.returns
returns c m h = rw c.absorb.ensures.rate at (c.squeeze.ensures (m ++ (c.args.domain ∷ [])) (c.absorb.ensures.holds m h))
