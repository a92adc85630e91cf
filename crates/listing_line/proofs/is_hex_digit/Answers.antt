-- A decimal digit is what `is_digit` says.
use mathlib.Core.Path.{refl}
use Rattle.listing_line.proofs.is_hex_digit.Goals as goal

pub returns : goal.returns
returns c = rw c.is_digit.ensures refl
