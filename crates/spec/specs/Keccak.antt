-- FIPS 202, section 3: Keccak-f[1600] on lanes. A lane is a number below 2^64 whose bit z is A[x, y, z]; the state is the list of 25 lanes, lane (x, y)
-- at place 5 * y + x.
use Rattle.std.specs.Prelude.{ℕ, zero, suc, ◌+◌, ◌-◌, ◌*◌, ◌/◌, ◌%◌, ◌^◌, List, cond, get_or, set, ltb}
use Rattle.std.specs.Int.Bits.{bit_and, bit_xor}
use Rattle.spec.specs.Bytes.{tabulate, zeros}

-- the lane whose bit z is bit (z - n) mod 64 of x, for n below 64
unfoldable pub rotl : ℕ → ℕ → ℕ
rotl zero x = x
rotl (suc n) x = x * 2 ^ suc n % 2 ^ 64 + x / 2 ^ (64 - suc n)

-- every bit of the lane complemented
abbrev pub complement : ℕ → ℕ
complement x = 2 ^ 64 - 1 - x

-- lane (x mod 5, y) of the state a
abbrev pub lane : List ℕ → ℕ → ℕ → ℕ
lane a x y = get_or a (5 * y + x % 5) 0

-- the state whose lane (x, y) is f x y
abbrev pub grid : (ℕ → ℕ → ℕ) → List ℕ
grid f = tabulate 25 (λ i. f (i % 5) (i / 5))

-- Algorithm 1, theta. Step 1: C[x], the parity of column x
unfoldable pub column_parities : List ℕ → List ℕ
column_parities a = tabulate 5 (λ x. bit_xor (bit_xor (bit_xor (bit_xor (lane a x 0) (lane a x 1)) (lane a x 2)) (lane a x 3)) (lane a x 4))

-- step 2: D[x], of the two columns beside column x
unfoldable pub beside_columns : List ℕ → List ℕ
beside_columns c = tabulate 5 (λ x. bit_xor (get_or c ((x + 4) % 5) 0) (rotl 1 (get_or c ((x + 1) % 5) 0)))

-- step 3
unfoldable pub add_columns : List ℕ → List ℕ → List ℕ
add_columns a d = grid (λ x y. bit_xor (lane a x y) (get_or d x 0))

unfoldable pub theta : List ℕ → List ℕ
theta a = add_columns a (beside_columns (column_parities a))

-- Algorithm 2, rho: the walk over the lanes from (x, y), t steps done and n to go, notes the offset of each lane
unfoldable pub walk_offsets : ℕ → ℕ → ℕ → ℕ → List ℕ → List ℕ
walk_offsets zero t x y offsets = offsets
walk_offsets (suc n) t x y offsets = walk_offsets n (suc t) y ((2 * x + 3 * y) % 5) (set offsets (5 * y + x) ((t + 1) * (t + 2) / 2 % 64))

unfoldable pub rho_offsets : List ℕ
rho_offsets = walk_offsets 24 0 1 0 (zeros 25)

unfoldable pub rho : List ℕ → List ℕ
rho a = grid (λ x y. rotl (get_or rho_offsets (5 * y + x) 0) (lane a x y))

-- Algorithm 3, pi
unfoldable pub pi : List ℕ → List ℕ
pi a = grid (λ x y. lane a (x + 3 * y) x)

-- Algorithm 4, chi
unfoldable pub chi : List ℕ → List ℕ
chi a = grid (λ x y. bit_xor (lane a x y) (bit_and (complement (lane a (x + 1) y)) (lane a (x + 2) y)))

-- Algorithm 5, rc: the register R as the number whose bit i is R[i], after t steps. A 1 shifted out of bit 7 is added to bits 0, 4, 5 and 6.
unfoldable pub register : ℕ → ℕ
register zero = 1
register (suc t) = cond (ltb (register t) 128) (register t * 2) (bit_xor (register t * 2) 0x171)

unfoldable pub rc : ℕ → ℕ
rc t = register (t % 255) % 2

-- Algorithm 6, iota. Bit 2^j - 1 of the constant of round i is rc (j + 7 i), for j from 0 to 6
unfoldable pub round_constant_up_to : ℕ → ℕ → ℕ
round_constant_up_to i zero = 0
round_constant_up_to i (suc j) = round_constant_up_to i j + rc (j + 7 * i) * 2 ^ (2 ^ j - 1)

unfoldable pub round_constant : ℕ → ℕ
round_constant i = round_constant_up_to i 7

unfoldable pub iota : ℕ → List ℕ → List ℕ
iota k a = set a 0 (bit_xor (get_or a 0 0) k)

-- Rnd, section 3.3, with the round's constant k
unfoldable pub round : ℕ → List ℕ → List ℕ
round k a = iota k (chi (pi (rho (theta a))))

-- Algorithm 7: the first n rounds, and all 24
unfoldable pub first_rounds : ℕ → List ℕ → List ℕ
first_rounds zero a = a
first_rounds (suc n) a = round (round_constant n) (first_rounds n a)

unfoldable pub keccak_f : List ℕ → List ℕ
keccak_f a = first_rounds 24 a
