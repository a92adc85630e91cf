-- After i turns i lines are put, each of at most 39 bytes.
use Prim.Native.Nat.{◌-◌, ◌*◌, ◌≤◌}
use mathlib.Core.Path.{◌≡◌, ◌∙◌}
use lib.ListN.{length}
use Rattle.listing_text.specs.Put.{Put}
use Rattle.enumeration.specs.Pieces.{lines_from}
use Rattle.enumeration.proofs.put_lines.Given as goal

abbrev pub invariant-loop-i : goal.invariant-loop-i
invariant-loop-i l =
    (length l.out ≡ length l.initial.out) × (l.end ≤ 39 * l.i) × Put (lines_from l.s l.from l.i) 0 l.initial.out l.out l.end
