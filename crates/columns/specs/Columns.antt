-- What xoring into a buffer does to it, as relations between the buffer before and after that compose.
use Rattle.std.specs.Prelude.{ℕ, ◌+◌, ◌*◌, ◌≤◌, ◌<◌, ◌≡◌, List, length, get_or}
use Rattle.std.specs.Int.Bits.{bit_xor}
use Rattle.spec.specs.Bytes.{bit, xor_below}

-- `new` is `old` with f p xored into each byte p from lo on and below hi
pub record Xored (lo hi : ℕ) (f : ℕ → ℕ) (old new : List ℕ) : Type 0 where
  pub size : length new ≡ length old
  pub inside : (p : ℕ) → lo ≤ p → p < hi → get_or new p 0 ≡ bit_xor (get_or old p 0) (f p)
  pub outside : (p : ℕ) → (lo ≤ p → p < hi → ⊥) → get_or new p 0 ≡ get_or old p 0

-- columns of b bytes, one after another: `new` is `old` with f j p xored into byte p of column j, for the first k
pub record Added (b k : ℕ) (f : ℕ → ℕ → ℕ) (old new : List ℕ) : Type 0 where
  pub size : length new ≡ length old
  pub known : (j p : ℕ) → j < k → p < b → get_or new (b * j + p) 0 ≡ bit_xor (get_or old (b * j + p) 0) (f j p)

-- and those from k on are as they were
pub record Done (b k : ℕ) (f : ℕ → ℕ → ℕ) (old new : List ℕ) : Type 0 where
  pub first : Added b k f old new
  pub rest : (j p : ℕ) → k ≤ j → p < b → get_or new (b * j + p) 0 ≡ get_or old (b * j + p) 0

-- h + 1 columns while the rows are added in the order of their numbers, and row x p is byte p of the row of number x: those below n have been. The last column
-- has the sum of the rows from `from` on; each other has the sum of those whose number has its bit set, and on top of it the last, where n has the bit set.
pub record Running (b h from n : ℕ) (row : ℕ → ℕ → ℕ) (cols : List ℕ) : Type 0 where
  pub size : length cols ≡ b * (h + 1)
  pub last : (p : ℕ) → p < b → get_or cols (b * h + p) 0 ≡ bit_xor (xor_below from (λ x. row x p)) (xor_below n (λ x. row x p))
  pub others : (j p : ℕ) → j < h → p < b
      → get_or cols (b * j + p) 0 ≡ bit_xor (xor_below n (λ x. bit j x * row x p)) (bit j n * get_or cols (b * h + p) 0)

-- the same columns but the last, of which nothing is known: each has the sum of the rows below n whose number has its bit set
pub record Marked (b h n : ℕ) (row : ℕ → ℕ → ℕ) (cols : List ℕ) : Type 0 where
  pub size : length cols ≡ b * (h + 1)
  pub others : (j p : ℕ) → j < h → p < b → get_or cols (b * j + p) 0 ≡ xor_below n (λ x. bit j x * row x p)
