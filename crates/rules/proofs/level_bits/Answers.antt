-- The level stands in the shape.
use mathlib.Core.Path.{refl}
use Rattle.spec.specs.Shapes.{level}
use Rattle.planning_laws.proofs.ShapeFacts.{shape-facts, widths}
use Rattle.rules.proofs.level_bits.Goals as goal

pub returns : goal.returns
unfolding level
returns c = (refl, (widths c.args.s (shape-facts c.args.s c.requires)).level-max)
