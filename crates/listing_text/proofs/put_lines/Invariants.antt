-- After i turns the first i lines are put, each of at most six bytes.
use Prim.Native.Nat.{◌+◌, ◌*◌, ◌≤◌}
use mathlib.Core.Path.{◌≡◌}
use lib.ListN.{length}
use Rattle.listing_text.specs.Put.{Put, number_lines}
use Rattle.listing_text.proofs.put_lines.Given as goal

abbrev pub invariant-loop-number : goal.invariant-loop-number
invariant-loop-number l =
    (length l.out ≡ length l.initial.out) × (l.end ≤ l.at + 6 * l.number-index) × Put (number_lines l.numbers l.number-index) l.at l.initial.out l.out l.end
