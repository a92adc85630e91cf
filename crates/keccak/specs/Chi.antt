-- FIPS 202, Algorithm 4, chi, on one row of five lanes.
use Rattle.std.specs.Prelude.{ℕ, List, [], ◌∷◌}
use Rattle.std.specs.Int.Bits.{bit_and, bit_xor}
use Rattle.spec.specs.Keccak.{complement}

-- a lane with the two after it in its row
abbrev pub chi_lane : ℕ → ℕ → ℕ → ℕ
chi_lane a b c = bit_xor a (bit_and (complement b) c)

abbrev pub chi_row : ℕ → ℕ → ℕ → ℕ → ℕ → List ℕ
chi_row a b c d e = chi_lane a b c ∷ chi_lane b c d ∷ chi_lane c d e ∷ chi_lane d e a ∷ chi_lane e a b ∷ []
