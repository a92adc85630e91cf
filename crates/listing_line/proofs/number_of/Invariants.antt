-- After i digits v is the number that they make, so it is below 10 ^ i.
use mathlib.Core.Path.{◌≡◌}
use lib.ListN.{take}
use Rattle.listing_line.specs.Line.{decimal_from}
use Rattle.listing_line.proofs.number_of.Given as goal

abbrev pub invariant-loop-i : goal.invariant-loop-i
invariant-loop-i l = l.v ≡ decimal_from 0 (take l.i l.text)
