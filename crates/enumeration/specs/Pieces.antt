-- The output in pieces, since it has up to 2.4 million bytes: 1,024 lines in each, fewer where no more are left, and behind them the last line; or the refusal. Each piece is
-- made of the reading of the input and of its number alone.
use Rattle.std.specs.Prelude.{ℕ, ◌+◌, ◌-◌, ◌*◌, ◌/◌, ◌^◌, ◌≤◌, min, ◌≡◌, true, cond, List, ltb, eqb}
use Rattle.spec.specs.declared.Shape.{Shape}
use Rattle.spec.specs.Bytes.{concat}
use Rattle.spec.specs.Shapes.{shape_ok}
use Rattle.listing_text.specs.Text.{refused_text, pair_text}
use Rattle.enumeration_text.specs.Listed.{open_bits, listed_at, listed, within, total}
use Rattle.enumeration_text.specs.Text.{line_text}
use Rattle.enumeration.specs.declared.Reading.{Reading}
use Rattle.enumeration.specs.Enumeration.{shape_in, enumeration_number, enumeration}

-- what reading an input gives
pub record Reads (input : List ℕ) (r : Reading) : Type 0 where
  pub number : r.number ≡ enumeration_number input
  pub shape : r.number ≡ 0 → r.shape ≡ shape_in input

-- what holds of every reading: the number is small, and with 0 the shape is one whose challenges are listed
pub record Readable (r : Reading) : Type 0 where
  pub small : r.number ≤ 12
  pub shape : r.number ≡ 0 → (shape_ok r.shape ≡ true) × (open_bits r.shape ≤ 16)

-- n lines, from line `from` on
abbrev pub lines_from : Shape → ℕ → ℕ → List ℕ
lines_from s from n = concat n (λ x. line_text (listed_at s (from + x)))

-- the last line
abbrev pub totals_text : Shape → List ℕ
totals_text s = pair_text (within s.t (listed s)) (total (listed s))

-- how many pieces the lines have
abbrev pub line_pieces : Shape → ℕ
line_pieces s = (2 ^ open_bits s + 1023) / 1024

-- piece i of the output of a shape
abbrev pub list_piece : Shape → ℕ → List ℕ
list_piece s i = cond (ltb i (line_pieces s)) (lines_from s (1024 * i) (min 1024 (2 ^ open_bits s - 1024 * i))) (totals_text s)

-- how many pieces the output has, and piece i
unfoldable pub piece_count : Reading → ℕ
piece_count r = cond (eqb r.number 0) (line_pieces r.shape + 1) 1

unfoldable pub piece_text : Reading → ℕ → List ℕ
piece_text r i = cond (eqb r.number 0) (list_piece r.shape i) (refused_text r.number)

-- the pieces, one behind another, are the whole output; ../proofs/Whole.antt proves it
abbrev pub Whole : Type 0
Whole = (input : List ℕ) (r : Reading) → Reads input r → concat (piece_count r) (piece_text r) ≡ enumeration input
