-- Document 02, E10: the challenges of a shape with clear grinding bits, each with its node count, and what such lines give together. s is a resolved shape.
use Rattle.std.specs.Prelude.{ℕ, ◌+◌, ◌-◌, ◌^◌, cond, List, [], ◌∷◌, leb}
use Rattle.spec.specs.declared.Shape.{Shape}
use Rattle.spec.specs.Bytes.{tabulate, digits}
use Rattle.spec.specs.Shapes.{level, challenge_bytes, planned_count}

-- how many bits of a challenge are no grinding bits
unfoldable pub open_bits : Shape → ℕ
open_bits s = level s - s.w

-- challenge x: the bytes that write the number x, least first. The lowest bits are those of vector 0, so it varies fastest (Order.antt)
unfoldable pub challenge_at : Shape → ℕ → List ℕ
challenge_at s x = digits 8 (challenge_bytes s) x

-- what a line tells: a challenge, and how many nodes its opening reveals
pub record Listed : Type 0 where
  pub challenge : List ℕ
  pub count : ℕ

unfoldable pub listed_at : Shape → ℕ → Listed
listed_at s x = record { challenge = challenge_at s x; count = planned_count s (challenge_at s x) }

-- all lines, in their order
unfoldable pub listed : Shape → List Listed
listed s = tabulate (2 ^ open_bits s) (listed_at s)

-- ---- what the lines give

-- the sum of f over the lines
unfoldable pub sum_of : (Listed → ℕ) → List Listed → ℕ
sum_of f [] = 0
sum_of f (l ∷ ls) = f l + sum_of f ls

-- how many need at most t nodes
unfoldable pub within : ℕ → List Listed → ℕ
within t ls = sum_of (λ l. cond (leb l.count t) 1 0) ls

-- the sum of all counts
unfoldable pub total : List Listed → ℕ
total ls = sum_of (λ l. l.count) ls
