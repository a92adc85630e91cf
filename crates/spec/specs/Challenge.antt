-- Document 000, section 5.5.1; document 01, "Challenge, nodes and opening": the bits of a challenge. Bit 0 is the least bit of byte 0.
use Rattle.std.specs.Prelude.{ℕ, ◌+◌, ◌/◌, ◌%◌, Bool, List, get_or}
use Rattle.spec.specs.Bytes.{bit, tabulate, number, all_zero}

-- bit b, and the n bits from bit `at` on
unfoldable pub bit_at : List ℕ → ℕ → ℕ
bit_at ch b = bit (b % 8) (get_or ch (b / 8) 0)

unfoldable pub bits_at : List ℕ → ℕ → ℕ → List ℕ
bits_at ch at n = tabulate n (λ j. bit_at ch (at + j))

-- DecodeAllChall3, figure 5.7, line 2, NumRec: the number that n bits make, least first
unfoldable pub index_at : List ℕ → ℕ → ℕ → ℕ
index_at ch at n = number 1 (bits_at ch at n)

-- n bits are 0
unfoldable pub clear_at : List ℕ → ℕ → ℕ → Bool
clear_at ch at n = all_zero (bits_at ch at n)
