-- The last line gives what a reader of the printed lines finds: behind the 32 digits and the space of a line stands its count, read as the listing program reads a number.
-- ../proofs/ReadBack.antt proves it.
use Rattle.std.specs.Prelude.{ℕ, ◌≡◌, cond, List, leb, drop}
use Rattle.spec.specs.declared.Shape.{Shape}
use Rattle.listing_line.specs.Line.{number_of}
use Rattle.enumeration_text.specs.Listed.{listed_at, listed, sum_of, within, total}
use Rattle.enumeration_text.specs.Text.{line_text}

abbrev pub printed_count : List ℕ → ℕ
printed_count line = number_of (drop 33 line)

-- of a shape at level 128
pub record ReadBack (s : Shape) : Type 0 where
  pub each-count : (x : ℕ) → printed_count (line_text (listed_at s x)) ≡ (listed_at s x).count
  pub first-total : (t : ℕ) → within t (listed s) ≡ sum_of (λ l. cond (leb (printed_count (line_text l)) t) 1 0) (listed s)
  pub second-total : total (listed s) ≡ sum_of (λ l. printed_count (line_text l)) (listed s)
