-- What `Sponge::h1` ensures, of one part.
use mathlib.Core.List.{[]}
use Rattle.shake.proofs.h1.Goals as goal

pub returns : goal.returns
returns c = rw (c.absorb.ensures.rate, c.new.ensures.0) at (c.h1.ensures c.args.message.now (c.absorb.ensures.holds [] c.new.ensures.1))
