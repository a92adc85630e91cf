-- One digit, and behind it another.
use Rattle.listing_text.proofs.Writing.{put_next}
use Rattle.enumeration_text.proofs.put_hex_byte.Goals as goal

pub returns : goal.returns
returns c =
    rw (c.hex_digit-2.ensures, c.hex_digit.ensures) at (put_next c.put_byte-end.ensures c.put_byte.ensures)
