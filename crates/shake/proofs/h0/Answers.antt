-- What `hash` ensures of the sponge that has absorbed the message.
use mathlib.Core.List.{[]}
use Rattle.spec.specs.Hashes.{hash0}
use Rattle.shake.proofs.h0.Goals as goal

pub returns : goal.returns
unfolding hash0
returns c = rw (c.absorb.ensures.rate, c.new.ensures.0) at (c.hash.ensures c.args.iv.now (c.absorb.ensures.holds [] c.new.ensures.1))
