-- `keccak::beside_columns` meets its contract, by that of the rotation in each of the five lanes.
use mathlib.Core.List.{[], ◌∷◌}
use lib.Bits.{bit_xor}
use lib.ListN.{get_or}
use Rattle.spec.specs.Bytes.{tabulate}
use Rattle.spec.specs.Keccak.{beside_columns}
use Rattle.keccak.proofs.beside_columns.Goals as goal

pub returns : goal.returns
unfolding tabulate beside_columns
returns c =
    let at = get_or c.args.c in
    λ k.
    bit_xor (at 4 0) (c.rotate_left.ensures k)
    ∷ bit_xor (at 0 0) (c.rotate_left-2.ensures k)
    ∷ bit_xor (at 1 0) (c.rotate_left-3.ensures k)
    ∷ bit_xor (at 2 0) (c.rotate_left-4.ensures k)
    ∷ bit_xor (at 3 0) (c.rotate_left-5.ensures k)
    ∷ []
