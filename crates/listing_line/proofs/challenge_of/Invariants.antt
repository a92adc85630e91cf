-- The first i bytes are those that the first 2 i digits write.
use Prim.Native.Nat.{ℕ, ◌+◌, ◌*◌}
use mathlib.Core.List.{List}
use lib.ListN.{get_or}
use Rattle.laws.specs.Front.{Front}
use Rattle.listing_line.specs.Line.{hex_value}
use Rattle.listing_line.proofs.challenge_of.Given as goal

abbrev pub byte : List ℕ → ℕ → ℕ
byte text i = 16 * hex_value (get_or text (2 * i) 0) + hex_value (get_or text (2 * i + 1) 0)

abbrev pub invariant-loop-i : goal.invariant-loop-i
invariant-loop-i l = Front (byte l.text) 16 l.i l.byte-items
