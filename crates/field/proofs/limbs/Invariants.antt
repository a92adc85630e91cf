-- A number that fits N limbs is that of the first N. The loop's invariant: `i` limbs are copied.
use Rattle.std.proofs.Common.{◌≡◌, length, take}
use Rattle.field.proofs.limbs.Given as goal

abbrev pub invariant-loop-i : goal.invariant-loop-i
invariant-loop-i g l = (length l.r ≡ g.row.N) × (take l.i l.r ≡ take l.i l.x)
