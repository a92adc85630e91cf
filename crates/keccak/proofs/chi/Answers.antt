-- What `chi_row` ensures of each row, put together, computes to the definition.
use mathlib.Core.List.{List, [], ◌∷◌}
use Prim.Native.Nat.{ℕ}
use lib.ListN.{get_or}
use Rattle.spec.specs.Bytes.{tabulate}
use Rattle.spec.specs.Keccak.{chi}
use Rattle.keccak.proofs.chi.Goals as goal

-- a row in front of the rows after it
abbrev row : List ℕ → List ℕ → List ℕ
row r rest = get_or r 0 0 ∷ get_or r 1 0 ∷ get_or r 2 0 ∷ get_or r 3 0 ∷ get_or r 4 0 ∷ rest

pub returns : goal.returns
unfolding tabulate chi
returns c =
    λ k.
    row (c.chi_row-r0.ensures k)
    (row (c.chi_row-r1.ensures k)
    (row (c.chi_row-r2.ensures k)
    (row (c.chi_row-r3.ensures k)
    (row (c.chi_row-r4.ensures k) []))))
