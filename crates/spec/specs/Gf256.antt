-- FIPS 197, sections 4.2, 4.4 and 5.1.1: the field GF(2^8) and the S-box. A byte is a polynomial; bit i is the coefficient of x^i.
use Rattle.std.specs.Prelude.{◌≡◌, List, ℕ, zero, suc, ◌+◌, ◌%◌, ◌<◌, get_or}
use Rattle.spec.specs.Bytes.{bit, tabulate, number}
use Rattle.spec.specs.Polynomials.{field_product}

-- section 4.2: the product modulo m(x) = x^8 + x^4 + x^3 + x + 1
unfoldable pub mul : ℕ → ℕ → ℕ
mul a b = field_product 8 0x11b 8 a b

-- a^2 • a^4 • .. • a^(2^n)
unfoldable pub squares : ℕ → ℕ → ℕ
squares zero a = 1
squares (suc n) a = mul (mul a a) (squares n (mul a a))

-- section 4.4: the multiplicative inverse is a^254; it is 0 for 0, as section 5.1.1 asks
unfoldable pub inverse : ℕ → ℕ
inverse a = squares 7 a

-- section 5.1.1: bit i of the affine step
unfoldable pub affine_bit : ℕ → ℕ → ℕ
affine_bit b i = (bit i b + bit ((i + 4) % 8) b + bit ((i + 5) % 8) b + bit ((i + 6) % 8) b + bit ((i + 7) % 8) b + bit i 0x63) % 2

unfoldable pub affine : ℕ → ℕ
affine b = number 1 (tabulate 8 (affine_bit b))

-- SBOX: inversion followed by the affine step
unfoldable pub sbox : ℕ → ℕ
sbox x = affine (inverse x)

-- t is the table of the S-box
abbrev pub SboxTable : List ℕ → Type 0
SboxTable t = (k : ℕ) → k < 256 → get_or t k 0 ≡ sbox k
