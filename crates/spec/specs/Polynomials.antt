-- Polynomials over GF(2), written as numbers: bit i is the coefficient of x^i. A field of 2^w elements is the polynomials of degree below w, with
-- products taken modulo a polynomial m of degree w (FIPS 197, section 4; document 000, section 3.2). Sums are bit_xor.
use Rattle.std.specs.Prelude.{ℕ, zero, suc, ◌+◌, ◌*◌, ◌/◌, ◌%◌, ◌^◌}
use Rattle.std.specs.Int.Bits.{bit_xor}
use Rattle.spec.specs.Bytes.{bit}

-- a times the n lowest terms of b
unfoldable pub product : ℕ → ℕ → ℕ → ℕ
product zero a b = 0
product (suc n) a b = bit_xor (b % 2 * a) (product n (a * 2) (b / 2))

-- p, of degree below w + n, modulo m, of degree w: from the top term down, each is cleared by a multiple of m
unfoldable pub remainder : ℕ → ℕ → ℕ → ℕ → ℕ
remainder w m zero p = p
remainder w m (suc n) p = remainder w m n (bit_xor (bit (w + n) p * (m * 2 ^ n)) p)

-- the product in the field, for a of degree below w and b of degree below n
unfoldable pub field_product : ℕ → ℕ → ℕ → ℕ → ℕ → ℕ
field_product w m n a b = remainder w m n (product n a b)
