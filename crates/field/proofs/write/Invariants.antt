-- `field::write` meets its contract. The loop's invariant: the bytes of the limbs passed are right.
use Rattle.field.proofs.Elements.{Written}
use Rattle.field.proofs.write.Given as goal

abbrev pub invariant-loop-i : goal.invariant-loop-i
invariant-loop-i g l = Written g.row.N l.x l.y l.initial.out l.out l.i
