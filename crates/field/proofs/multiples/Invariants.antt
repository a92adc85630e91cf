-- `field::multiples` meets its contract. The loop's invariant: the entries below `d` are right.
use Rattle.spec.specs.Bytes.{number}
use Rattle.field.proofs.Products.{Entries}
use Rattle.field.proofs.multiples.Given as goal

abbrev pub invariant-loop-d : goal.invariant-loop-d
invariant-loop-d g l = Entries g.F.Field.width g.F.Field.polynomial (number 8 l.key) l.t l.d
