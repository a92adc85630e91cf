-- Each byte passed is a hexadecimal digit, and one that is none settles it.
use mathlib.Core.Path.{◌≡◌}
use mathlib.Core.Bool.{true}
use Rattle.listing_line.specs.Line.{hex_below}
use Rattle.listing_line.proofs.hex_below.Given as goal

abbrev pub invariant-loop-i : goal.invariant-loop-i
invariant-loop-i l = hex_below l.i l.text ≡ true
