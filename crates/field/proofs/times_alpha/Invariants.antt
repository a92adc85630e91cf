-- `field::times_alpha` meets its contract. The loop's invariant: the limbs written so far, with the carry above them, are 2 ^ n times as many limbs of `x`.
-- At the end the carry is what leaves at the top, and comes back reduced.
use Rattle.field.proofs.Elements.{Shifted}
use Rattle.field.proofs.times_alpha.Given as goal

abbrev pub invariant-loop-i : goal.invariant-loop-i
invariant-loop-i g l = Shifted g.row.N l.n l.x l.r l.carry l.i
