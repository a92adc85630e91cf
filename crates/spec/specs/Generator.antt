-- Document 000, section 3.3, figure 3.6: the tweakable generator PRG, AES in counter mode. The words of the IV are the columns of its state,
-- each a number with the least byte first.
use Rattle.std.specs.Prelude.{List, [], ◌∷◌, ℕ, ◌+◌, ◌/◌, ◌%◌, ◌^◌, get_or}
use Rattle.spec.specs.Bytes.{number, digits}
use Rattle.spec.specs.Aes.{column, state_of, bytes_of, cipher, key_expansion}

-- a word plus v, modulo 2^32
unfoldable pub add_to_word : List ℕ → ℕ → List ℕ
add_to_word a v = digits 8 4 ((number 8 a + v) % 2 ^ 32)

abbrev pub add_to_upper_word : List (List ℕ) → ℕ → List (List ℕ)
add_to_upper_word iv v = column iv 0 ∷ column iv 1 ∷ column iv 2 ∷ add_to_word (column iv 3) v ∷ []

abbrev pub add_to_lower_word : List (List ℕ) → ℕ → List (List ℕ)
add_to_lower_word iv v = add_to_word (column iv 0) v ∷ column iv 1 ∷ column iv 2 ∷ column iv 3 ∷ []

-- block n, for a key of nk words: the tweak goes into the upper word, the block's number into the lower one
unfoldable pub generator_block : ℕ → List ℕ → List ℕ → ℕ → ℕ → List ℕ
generator_block nk key iv tweak n = bytes_of (cipher (nk + 6) (key_expansion nk key) (add_to_lower_word (add_to_upper_word (state_of iv) tweak) n))

-- byte p of the output, whatever the output's length: the blocks follow one another, and the last is cut (docs/DECISIONS.md on figure 3.6)
unfoldable pub generator_byte : ℕ → List ℕ → List ℕ → ℕ → ℕ → ℕ
generator_byte nk key iv tweak p = get_or (generator_block nk key iv tweak (p / 16)) (p % 16) 0
