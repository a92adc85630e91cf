-- What the two tests of version 2 ensure, in their places.
use mathlib.Core.Path.{ap₂}
use mathlib.Core.Bool.{Bool, ◌&&◌}
use lib.Dec.{eqb}
use Rattle.spec.specs.Version1.{shape1_ok}
use Rattle.v1_rules.proofs.is_shape.Goals as goal

pub returns : goal.returns
unfolding shape1_ok
returns c = (let s = c.args.s in ap₂ (λ (a b : Bool). a && eqb s.w 0 && eqb s.t 1 && b) c.is_shape.ensures c.is_ordinary.ensures)
