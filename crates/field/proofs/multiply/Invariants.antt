-- `field::multiply` meets its contract. The loop's invariant: `r` is the product with the bytes from `j` on.
use Rattle.field.proofs.Products.{Multiplied}
use Rattle.field.proofs.multiply.Given as goal

abbrev pub invariant-loop-j : goal.invariant-loop-j
invariant-loop-j g l = Multiplied g.F.Field.width g.F.Field.polynomial l.t l.s l.r l.j
