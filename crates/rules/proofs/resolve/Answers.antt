-- The test is that of the definition.
use mathlib.Core.Path.{sym, ap}
use mathlib.Core.Bool.{Bool, cond}
use Rattle.spec.specs.Bytes.{all_zero}
use Rattle.spec.specs.Shapes.{faest128f, resolved}
use Rattle.rules.proofs.resolve.Goals as goal

pub returns-then-zeros-s : goal.returns-then-zeros-s
unfolding resolved all_zero faest128f
returns-then-zeros-s c = sym (ap (λ (b : Bool). cond b faest128f c.args.s) c.if-zeros-s.true)

pub returns-else-zeros-s : goal.returns-else-zeros-s
unfolding resolved all_zero
returns-else-zeros-s c = sym (ap (λ (b : Bool). cond b faest128f c.args.s) c.if-zeros-s.false)
