-- What is longer than any line is refused, so the first 64 bytes of an input tell what it lists: a line has at most 57 (`line-length`).
use Prim.Native.Nat.{ℕ, ◌<◌}
use mathlib.Core.Path.{◌≡◌, refl, sym, ap, ◌∙◌}
use mathlib.Core.List.{List}
use native.Mathlib.Omega.{arith}
use native.Mathlib.Decide.{dec_lt}
use lib.ListN.{length, take}
use lib.Seq.{take_all, length-take-le}
use Rattle.laws.proofs.Conjunctions.{refuted}
use Rattle.listing_line.specs.Line.{line_ok}
use Rattle.listing_line.proofs.Lines.{line-length}
use Rattle.listing_text.specs.Text.{refused_text}
use Rattle.listing.specs.Listing.{listing}

pub too_long : (input : List ℕ) → 57 < length input → listing input ≡ refused_text 7
unfolding listing
too_long input h = rw (sym (refuted (line_ok input) (λ e. omega (arith, line-length input e)))) refl

pub first-64 : (input : List ℕ) → listing (take 64 input) ≡ listing input
first-64 input = go (dec_lt 64 (length input))
  where
    go : Dec (64 < length input) → listing (take 64 input) ≡ listing input
    go (no h) = ap listing (take_all 64 input (omega arith))
    go (yes h) =
        too_long (take 64 input) (omega (arith, length-take-le 64 input (omega arith))) ∙ sym (too_long input (omega arith))
