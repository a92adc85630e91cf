-- Document 02, E10: "each challenge with clear grinding bits once, each vector varying faster than the next and each index ascending". The claims that the list of
-- Listed.antt is this one; ../proofs/Order.antt proves them.
use Rattle.std.specs.Prelude.{ℕ, ◌/◌, ◌%◌, ◌^◌, ◌<◌, ◌≡◌, true, List, length, get_or}
use Rattle.spec.specs.declared.Shape.{Shape}
use Rattle.spec.specs.Shapes.{shape_ok, challenge_bytes, entries_of, first_bit, hidden_index, grinding_ok}
use Rattle.enumeration_text.specs.Listed.{open_bits, challenge_at}

-- a challenge: as many bytes as the level asks
pub record IsChallenge (s : Shape) (ch : List ℕ) : Type 0 where
  pub size : length ch ≡ challenge_bytes s
  pub bytes : (i : ℕ) → get_or ch i 0 < 256

-- line x has a challenge with clear grinding bits, each such challenge has a line, and no two lines have the same
pub record EachOnce (s : Shape) : Type 0 where
  pub challenges : (x : ℕ) → IsChallenge s (challenge_at s x)
  pub allowed : (x : ℕ) → x < 2 ^ open_bits s → grinding_ok s (challenge_at s x) ≡ true
  pub found : (ch : List ℕ) → IsChallenge s ch → grinding_ok s ch ≡ true → (x : ℕ) × (x < 2 ^ open_bits s) × (challenge_at s x ≡ ch)
  pub once : (x y : ℕ) → x < 2 ^ open_bits s → y < 2 ^ open_bits s → challenge_at s x ≡ challenge_at s y → x ≡ y

-- the index of vector i is digit i of the line's number, where digit i ranges over the entries of vector i, and digit 0 is the lowest
abbrev pub MixedRadix : Shape → Type 0
MixedRadix s = (x i : ℕ) → x < 2 ^ open_bits s → hidden_index s (challenge_at s x) i ≡ x / 2 ^ first_bit s i % entries_of s i

-- of two lines the later has the larger index in the last vector in which they differ
abbrev pub Ascending : Shape → Type 0
Ascending s =
    (x y : ℕ)
    → x < y
    → y < 2 ^ open_bits s
    → (i : ℕ)
    × (i < s.tau)
    × (hidden_index s (challenge_at s x) i < hidden_index s (challenge_at s y) i)
    × ((j : ℕ) → i < j → j < s.tau → hidden_index s (challenge_at s x) j ≡ hidden_index s (challenge_at s y) j)

pub record ListOrder : Type 0 where
  pub each-once : (s : Shape) → shape_ok s ≡ true → EachOnce s
  pub mixed-radix : (s : Shape) → shape_ok s ≡ true → MixedRadix s
  pub ascending : (s : Shape) → shape_ok s ≡ true → Ascending s
