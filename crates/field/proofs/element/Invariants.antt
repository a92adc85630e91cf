-- `field::element` meets its contract. The loop's invariant: the limbs are the number of the bytes read so far.
use Rattle.field.proofs.Elements.{Joined}
use Rattle.field.proofs.element.Given as goal

abbrev pub invariant-loop-p : goal.invariant-loop-p
invariant-loop-p g l = Joined g.row.N l.s l.r l.p
