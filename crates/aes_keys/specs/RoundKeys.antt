-- FIPS 197, section 5.2, by whole round keys and, for keys of 6 words, by blocks of six words.
use Rattle.std.specs.Prelude.{◌≡◌, List, [], ◌∷◌, ℕ, ◌+◌, ◌*◌, ◌/◌, ◌%◌, length, get_or, take}
use Rattle.spec.specs.Bytes.{tabulate}
use Rattle.spec.specs.Aes.{column, state, xor_word, sub_word, rot_word, round_key, key_expansion}

-- the number of words of a key
abbrev pub words : List ℕ → ℕ
words key = length key / 4

-- the nk + 7 round keys of a key of nk words
unfoldable pub round_keys : ℕ → List ℕ → List (List (List ℕ))
round_keys nk key = tabulate (nk + 7) (round_key (key_expansion nk key))

-- they stand at the front of `keys`
abbrev pub Keyed : ℕ → List ℕ → List (List (List ℕ)) → Type 0
Keyed nk key keys = take (nk + 7) keys ≡ round_keys nk key

-- the first nk words of the round keys are the key's: its bytes, four words of four bytes from each round key
unfoldable pub key_of : ℕ → List (List (List ℕ)) → List ℕ
key_of nk keys = tabulate (4 * nk) (λ b. get_or (get_or (get_or keys (b / 16) []) (b / 4 % 4) []) (b % 4) 0)

-- four words, the first of which is a, each other the sum of the one before it and that of k
abbrev pub chained : List (List ℕ) → List ℕ → List (List ℕ)
chained k a =
    a
    ∷ xor_word (column k 1) a
    ∷ xor_word (column k 2) (xor_word (column k 1) a)
    ∷ xor_word (column k 3) (xor_word (column k 2) (xor_word (column k 1) a)) ∷ []

-- the four words from a word on whose number the key's length divides: k has those a key's length before them, p the four just before them, and Rcon's first byte is
-- rc. For keys of 4 words k and p are the same
unfoldable pub next_round_key : List (List ℕ) → List (List ℕ) → ℕ → List (List ℕ)
next_round_key k p rc = chained k (xor_word (column k 0) (xor_word (sub_word (rot_word (column p 3))) (rc ∷ 0 ∷ 0 ∷ 0 ∷ [])))

-- the four words in the middle of a key's length, for keys of 8 words
unfoldable pub odd_round_key : List (List ℕ) → List (List ℕ) → List (List ℕ)
odd_round_key k p = chained k (xor_word (column k 0) (sub_word (column p 3)))

-- ---- keys of 6 words

-- the words f 0 .. f 5, and block i of six words
abbrev pub six_of : (ℕ → List ℕ) → List (List ℕ)
six_of f = f 0 ∷ f 1 ∷ f 2 ∷ f 3 ∷ f 4 ∷ f 5 ∷ []

unfoldable pub six_words : List (List ℕ) → ℕ → List (List ℕ)
six_words w i = six_of (λ c. column w (6 * i + c))

-- the first and the last four words of a block
abbrev pub lower_four : List (List ℕ) → List (List ℕ)
lower_four k = state (column k)

abbrev pub upper_four : List (List ℕ) → List (List ℕ)
upper_four k = state (λ c. column k (2 + c))

-- the block whose first four words are a, after block k
abbrev pub continued : List (List ℕ) → List (List ℕ) → List (List ℕ)
continued k a =
    column a 0
    ∷ column a 1
    ∷ column a 2
    ∷ column a 3
    ∷ xor_word (column k 4) (column a 3)
    ∷ xor_word (column k 5) (xor_word (column k 4) (column a 3)) ∷ []

unfoldable pub next_six : List (List ℕ) → ℕ → List (List ℕ)
next_six k rc = continued k (next_round_key (lower_four k) (upper_four k) rc)

-- the three round keys of two blocks
abbrev pub three_keys : List (List ℕ) → List (List ℕ) → List (List (List ℕ))
three_keys a b =
    lower_four a
    ∷ (column a 4 ∷ column a 5 ∷ column b 0 ∷ column b 1 ∷ [])
    ∷ upper_four b ∷ []
