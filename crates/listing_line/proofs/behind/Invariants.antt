-- After i turns the text is what stands behind i numbers.
use mathlib.Core.Path.{◌≡◌}
use Rattle.listing_line.specs.Line.{behind}
use Rattle.listing_line.proofs.behind.Given as goal

abbrev pub invariant-loop-i : goal.invariant-loop-i
invariant-loop-i l = l.text ≡ behind l._i l.input
