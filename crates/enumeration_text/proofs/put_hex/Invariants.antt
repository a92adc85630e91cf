-- After i turns the first i bytes are put, two digits for each.
use Prim.Native.Nat.{◌+◌, ◌*◌}
use mathlib.Core.Path.{◌≡◌}
use lib.ListN.{length, get_or}
use Rattle.spec.specs.Bytes.{concat}
use Rattle.listing_text.specs.Put.{Put}
use Rattle.enumeration_text.specs.Text.{hex_byte}
use Rattle.enumeration_text.proofs.put_hex.Given as goal

abbrev pub invariant-loop-byte : goal.invariant-loop-byte
invariant-loop-byte l =
    (length l.out ≡ length l.initial.out) × (l.end ≡ l.at + 2 * l.byte-index) × Put (concat l.byte-index (λ j. hex_byte (get_or l.bytes j 0))) l.at l.initial.out l.out l.end
