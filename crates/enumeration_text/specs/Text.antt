-- Document 02, E10: the bytes of the output, as a function of what is listed. Texts are ASCII; decimal numbers are those of the listing program.
use Rattle.std.specs.Prelude.{ℕ, ◌+◌, ◌/◌, ◌%◌, cond, List, [], ◌∷◌, ◌++◌, ltb, length, get_or}
use Rattle.spec.specs.Bytes.{concat}
use Rattle.listing_text.specs.Text.{decimal, pair_text}
use Rattle.enumeration_text.specs.Listed.{Listed, within, total}

-- a lowercase hexadecimal digit, and the two of a byte
abbrev pub hex_digit : ℕ → ℕ
hex_digit d = cond (ltb d 10) (48 + d) (87 + d)

abbrev pub hex_byte : ℕ → List ℕ
hex_byte b = hex_digit (b / 16) ∷ hex_digit (b % 16) ∷ []

-- a string of bytes, byte 0 first
unfoldable pub hex_text : List ℕ → List ℕ
hex_text bytes = concat (length bytes) (λ i. hex_byte (get_or bytes i 0))

-- the challenge, a space, the count
unfoldable pub line_text : Listed → List ℕ
line_text l = (hex_text l.challenge ++ (32 ∷ [])) ++ (decimal l.count ++ (10 ∷ []))

unfoldable pub lines_text : List Listed → List ℕ
lines_text [] = []
lines_text (l ∷ ls) = line_text l ++ lines_text ls

-- the whole output: the lines, and what they give
unfoldable pub list_text : ℕ → List Listed → List ℕ
list_text t ls = lines_text ls ++ pair_text (within t ls) (total ls)
