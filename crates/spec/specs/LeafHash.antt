-- Document 000, section 5.1: FAEST.LeafHash, h = u · x0 + x1 in the field of 2^w elements modulo m. Bit i of byte p is the coefficient of
-- alpha^(8 p + i) (section 3.2, ToField and ToBits).
use Rattle.std.specs.Prelude.{List, ℕ, ◌*◌, ◌/◌, ◌%◌, ◌^◌, length}
use Rattle.std.specs.Int.Bits.{bit_xor}
use Rattle.spec.specs.Bytes.{number}
use Rattle.spec.specs.Polynomials.{field_product}

-- the field element h
unfoldable pub leaf_hash : ℕ → ℕ → List ℕ → List ℕ → List ℕ → ℕ
leaf_hash w m u x₀ x₁ = bit_xor (field_product w m (8 * length x₀) (number 8 u) (number 8 x₀)) (number 8 x₁)

-- byte p of h
unfoldable pub leaf_hash_byte : ℕ → ℕ → List ℕ → List ℕ → List ℕ → ℕ → ℕ
leaf_hash_byte w m u x₀ x₁ p = leaf_hash w m u x₀ x₁ / 2 ^ (8 * p) % 2 ^ 8
