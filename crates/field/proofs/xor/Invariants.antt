-- `field::xor` meets its contract. The loop's invariant: the limbs written so far are those of the sum.
use Rattle.field.proofs.Elements.{Summed}
use Rattle.field.proofs.xor.Given as goal

abbrev pub invariant-loop-i : goal.invariant-loop-i
invariant-loop-i g l = Summed g.row.N l.a l.b l.r l.i
