-- FIPS 197, section 5: AES with a key of nk words (4, 6 or 8) in nk + 6 rounds. A word is a list of four bytes, a state the list of its four columns.
use Rattle.std.specs.Prelude.{◌&&◌, cond, List, [], ◌∷◌, ◌++◌, ℕ, zero, suc, ◌+◌, ◌*◌, ◌/◌, ◌%◌, ◌-◌, eqb, ltb, get_or, length}
use Rattle.std.specs.Int.Bits.{bit_xor}
use Rattle.spec.specs.Bytes.{tabulate}
use Rattle.spec.specs.Gf256.{mul, sbox}

-- column c of a state (or word c of a key schedule), and the byte in row r of column c
abbrev pub column : List (List ℕ) → ℕ → List ℕ
column s c = get_or s c []

abbrev pub byte_at : List (List ℕ) → ℕ → ℕ → ℕ
byte_at s r c = get_or (column s c) r 0

-- the word with the bytes f 0 .. f 3, and the state with the columns f 0 .. f 3
abbrev pub word : (ℕ → ℕ) → List ℕ
word f = f 0 ∷ f 1 ∷ f 2 ∷ f 3 ∷ []

abbrev pub state : (ℕ → List ℕ) → List (List ℕ)
state f = f 0 ∷ f 1 ∷ f 2 ∷ f 3 ∷ []

-- sections 3.4 and 3.5: word i of a string of bytes, the state of a block of 16 bytes, and the block of a state
abbrev pub word_at : List ℕ → ℕ → List ℕ
word_at b i = word (λ r. get_or b (4 * i + r) 0)

abbrev pub state_of : List ℕ → List (List ℕ)
state_of b = state (word_at b)

abbrev pub bytes_of : List (List ℕ) → List ℕ
bytes_of s = word (λ r. byte_at s r 0) ++ (word (λ r. byte_at s r 1) ++ (word (λ r. byte_at s r 2) ++ word (λ r. byte_at s r 3)))

unfoldable pub xor_word : List ℕ → List ℕ → List ℕ
xor_word a b = word (λ r. bit_xor (get_or a r 0) (get_or b r 0))

-- SUBWORD, section 5.2, and SUBBYTES, section 5.1.1
unfoldable pub sub_word : List ℕ → List ℕ
sub_word a = word (λ r. sbox (get_or a r 0))

unfoldable pub sub_bytes : List (List ℕ) → List (List ℕ)
sub_bytes s = state (λ c. sub_word (column s c))

-- SHIFTROWS, section 5.1.2: row r moves left by r columns
abbrev pub shift_rows : List (List ℕ) → List (List ℕ)
shift_rows s = state (λ c. word (λ r. byte_at s r ((c + r) % 4)))

-- MIXCOLUMNS, section 5.1.3
abbrev pub sum4 : ℕ → ℕ → ℕ → ℕ → ℕ
sum4 a b c d = bit_xor (bit_xor (bit_xor a b) c) d

abbrev pub mixed : ℕ → ℕ → ℕ → ℕ → List ℕ
mixed a b c d =
    sum4 (mul 2 a) (mul 3 b) c d
    ∷ sum4 a (mul 2 b) (mul 3 c) d
    ∷ sum4 a b (mul 2 c) (mul 3 d)
    ∷ sum4 (mul 3 a) b c (mul 2 d) ∷ []

unfoldable pub mix_column : List ℕ → List ℕ
mix_column a = mixed (get_or a 0 0) (get_or a 1 0) (get_or a 2 0) (get_or a 3 0)

unfoldable pub mix_columns : List (List ℕ) → List (List ℕ)
mix_columns s = state (λ c. mix_column (column s c))

-- ADDROUNDKEY, section 5.1.4
unfoldable pub add_round_key : List (List ℕ) → List (List ℕ) → List (List ℕ)
add_round_key s k = state (λ c. xor_word (column s c) (column k c))

-- section 5.1: a round, and the last round
unfoldable pub round_of : List (List ℕ) → List (List ℕ) → List (List ℕ)
round_of s k = add_round_key (mix_columns (shift_rows (sub_bytes s))) k

unfoldable pub last_round : List (List ℕ) → List (List ℕ) → List (List ℕ)
last_round s k = add_round_key (shift_rows (sub_bytes s)) k

-- round key i of the key schedule w
unfoldable pub round_key : List (List ℕ) → ℕ → List (List ℕ)
round_key w i = state (λ c. column w (4 * i + c))

-- the state s after rounds 1 to n
unfoldable pub rounds : List (List ℕ) → List (List ℕ) → ℕ → List (List ℕ)
rounds w s zero = s
rounds w s (suc n) = round_of (rounds w s n) (round_key w (suc n))

-- CIPHER, section 5.1, with nr rounds
unfoldable pub cipher : ℕ → List (List ℕ) → List (List ℕ) → List (List ℕ)
cipher nr w s = last_round (rounds w (add_round_key s (round_key w 0)) (nr - 1)) (round_key w nr)

-- section 5.2: ROTWORD, and Rcon[i], whose first byte is {02}^(i - 1)
abbrev pub rot_word : List ℕ → List ℕ
rot_word a = word (λ r. get_or a ((r + 1) % 4) 0)

unfoldable pub power2 : ℕ → ℕ
power2 zero = 1
power2 (suc n) = mul 2 (power2 n)

unfoldable pub rcon : ℕ → List ℕ
rcon i = power2 (i - 1) ∷ 0 ∷ 0 ∷ 0 ∷ []

-- KEYEXPANSION, section 5.2: what `temp`, word i - 1, becomes before it is added to word i - nk
unfoldable pub schedule_core : ℕ → ℕ → List ℕ → List ℕ
schedule_core nk i temp =
    cond (eqb (i % nk) 0) (xor_word (sub_word (rot_word temp)) (rcon (i / nk)))
    (cond (ltb 6 nk && eqb (i % nk) 4) (sub_word temp) temp)

-- the word after the words w
unfoldable pub next_word : ℕ → List (List ℕ) → List ℕ
next_word nk w = xor_word (column w (length w - nk)) (schedule_core nk (length w) (column w (length w - 1)))

-- the key's words and n more
unfoldable pub schedule : ℕ → List (List ℕ) → ℕ → List (List ℕ)
schedule nk key zero = key
schedule nk key (suc n) = schedule nk key n ++ (next_word nk (schedule nk key n) ∷ [])

-- the 4 * (nk + 7) words of the key schedule
unfoldable pub key_expansion : ℕ → List ℕ → List (List ℕ)
key_expansion nk key = schedule nk (tabulate nk (word_at key)) (3 * nk + 28)

-- AES of one block
unfoldable pub encrypt : ℕ → List ℕ → List ℕ → List ℕ
encrypt nk key block = bytes_of (cipher (nk + 6) (key_expansion nk key) (state_of block))
