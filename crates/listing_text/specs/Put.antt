-- What the functions that write texts promise.
use Rattle.std.specs.Prelude.{ℕ, ◌+◌, ◌≡◌, List, [], ◌∷◌, ◌++◌, length, get_or, take, drop}
use Rattle.spec.specs.Bytes.{concat}
use Rattle.listing_text.specs.Text.{decimal}

-- a text is put at a place of a buffer, behind what stands before the place; r is the place behind it, and what stands from there on is as it was
pub record Put (text : List ℕ) (at : ℕ) (before after : List ℕ) (r : ℕ) : Type 0 where
  pub end : r ≡ at + length text
  pub front : take r after ≡ take at before ++ text
  pub rest : drop r after ≡ drop r before

-- a number and a line feed; such a line for each of the first n numbers of a list
abbrev pub number_line : ℕ → List ℕ
number_line n = decimal n ++ (10 ∷ [])

abbrev pub number_lines : List ℕ → ℕ → List ℕ
number_lines numbers n = concat n (λ m. number_line (get_or numbers m 0))
