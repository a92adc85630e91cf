-- What the checking half has of one vector, before its correction.
use Rattle.std.specs.Prelude.{ℕ, cond, List, eqb}
use Rattle.std.specs.Int.Bits.{bit_xor}
use Rattle.spec.specs.declared.Shape.{Shape}
use Rattle.spec.specs.Bytes.{tabulate}
use Rattle.spec.specs.Shapes.{hidden_index}
use Rattle.spec.specs.Rows.{column_byte}

-- the leaf commitments of a vector whose entry d has the hidden one
abbrev pub given : List ℕ → (ℕ → List ℕ) → ℕ → ℕ → List ℕ
given hidden own d e = cond (eqb e d) hidden (own e)

-- column j of vector i, of b bytes, without its correction
unfoldable pub uncorrected : Shape → ℕ → (ℕ → ℕ → ℕ → ℕ) → List ℕ → ℕ → ℕ → List ℕ
uncorrected s b row ch i j = tabulate b (column_byte s row (λ e. bit_xor e (hidden_index s ch i)) i j)
