-- After i turns the first i bytes are put.
use Prim.Native.Nat.{◌+◌}
use mathlib.Core.Path.{◌≡◌}
use lib.ListN.{length, take}
use Rattle.listing_text.specs.Put.{Put}
use Rattle.listing_text.proofs.put_bytes.Given as goal

abbrev pub invariant-loop-byte : goal.invariant-loop-byte
invariant-loop-byte l = (length l.out ≡ length l.initial.out) × (l.end ≡ l.at + l.byte-index) × Put (take l.byte-index l.bytes) l.at l.initial.out l.out l.end
