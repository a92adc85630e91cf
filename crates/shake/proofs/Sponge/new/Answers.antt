-- The sponge that `empty` gives holds nothing at this rate either.
use mathlib.Core.Path.{refl}
use Rattle.shake.proofs.Sponge.new.Goals as goal

pub returns : goal.returns
returns c = (refl, c.empty-empty.ensures.holds.0 c.args.rate c.requires.1)
