-- Document 01, "The listing program": the bytes of the input. Texts are ASCII.
use Rattle.std.specs.Prelude.{ℕ, zero, suc, ◌+◌, ◌-◌, ◌*◌, ◌≤◌, Bool, true, ◌&&◌, ◌||◌, cond, List, [], ◌∷◌, leb, eqb, length, get_or, take, drop}
use Rattle.spec.specs.declared.Shape.{Shape}
use Rattle.spec.specs.Bytes.{tabulate}

-- the input: four numbers, each of one to five decimal digits with a space behind it, then 32 hexadecimal digits, then a line feed or the end; or, for the program that
-- lists all challenges (document 02, E10), the four numbers alone, with a line feed or the end behind the fourth

abbrev pub is_digit : ℕ → Bool
is_digit c = leb 48 c && leb c 57

-- how many decimal digits a text begins with
unfoldable pub digit_run : List ℕ → ℕ
digit_run [] = 0
digit_run (c ∷ cs) = cond (is_digit c) (suc (digit_run cs)) 0

-- the number that decimal digits make behind the number v
unfoldable pub decimal_from : ℕ → List ℕ → ℕ
decimal_from v [] = v
decimal_from v (c ∷ cs) = decimal_from (10 * v + (c - 48)) cs

-- a text begins with a number and its space; the number, and the text behind the space
unfoldable pub number_ok : List ℕ → Bool
number_ok text = leb 1 (digit_run text) && leb (digit_run text) 5 && eqb (get_or text (digit_run text) 0) 32

unfoldable pub number_of : List ℕ → ℕ
number_of text = decimal_from 0 (take (digit_run text) text)

unfoldable pub after_number : List ℕ → List ℕ
after_number text = drop (digit_run text + 1) text

-- a lowercase hexadecimal digit, and its value
abbrev pub is_hex_digit : ℕ → Bool
is_hex_digit c = is_digit c || (leb 97 c && leb c 102)

abbrev pub hex_value : ℕ → ℕ
hex_value c = cond (is_digit c) (c - 48) (c - 87)

-- each of the first n bytes is a hexadecimal digit
unfoldable pub hex_below : ℕ → List ℕ → Bool
hex_below zero text = true
hex_below (suc n) text = hex_below n text && is_hex_digit (get_or text n 0)

-- 32 hexadecimal digits and at most a line feed; the challenge that they write, byte 0 first
unfoldable pub challenge_ok : List ℕ → Bool
challenge_ok text = hex_below 32 text && (eqb (length text) 32 || (eqb (length text) 33 && eqb (get_or text 32 0) 10))

unfoldable pub challenge_of : List ℕ → List ℕ
challenge_of text = tabulate 16 (λ i. 16 * hex_value (get_or text (2 * i) 0) + hex_value (get_or text (2 * i + 1) 0))

-- the text behind n numbers
unfoldable pub behind : ℕ → List ℕ → List ℕ
behind zero text = text
behind (suc n) text = after_number (behind n text)

unfoldable pub line_ok : List ℕ → Bool
line_ok input =
    number_ok (behind 0 input) && number_ok (behind 1 input) && number_ok (behind 2 input) && number_ok (behind 3 input) && challenge_ok (behind 4 input)

-- a text is a number of one to five digits and at most a line feed
unfoldable pub last_number_ok : List ℕ → Bool
last_number_ok text =
    leb 1 (digit_run text) && leb (digit_run text) 5
    && (eqb (length text) (digit_run text) || (eqb (length text) (digit_run text + 1) && eqb (get_or text (digit_run text) 0) 10))

unfoldable pub shape_line_ok : List ℕ → Bool
shape_line_ok input = number_ok (behind 0 input) && number_ok (behind 1 input) && number_ok (behind 2 input) && last_number_ok (behind 3 input)

-- what reading a shape asks, and each of the two lines grants: no number has more than five digits
pub record ShortNumbers (input : List ℕ) : Type 0 where
  pub tau : digit_run (behind 0 input) ≤ 5
  pub k : digit_run (behind 1 input) ≤ 5
  pub w : digit_run (behind 2 input) ≤ 5
  pub t : digit_run (behind 3 input) ≤ 5

-- at level 128 and kind 0 (document 02, E7, E8 and E10)
unfoldable pub shape_of : List ℕ → Shape
shape_of input =
    record {
      tau = number_of (behind 0 input);
      k = number_of (behind 1 input);
      w = number_of (behind 2 input);
      t = number_of (behind 3 input);
      level = 128;
      kind = 0;
    }
