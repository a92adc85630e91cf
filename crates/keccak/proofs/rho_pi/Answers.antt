-- `keccak::rho_pi` meets its contract, by that of the rotation in each lane but the first, whose offset is 0. c4, c9, c14, c19 and c are the places at
-- which a row's last lane is made.
use mathlib.Core.List.{[], ◌∷◌}
use lib.ListN.{get_or}
use Rattle.spec.specs.Bytes.{tabulate, zeros}
use Rattle.spec.specs.Keccak.{rotl, walk_offsets, rho_offsets, rho, pi}
use Rattle.keccak.proofs.rho_pi.Goals as goal

pub returns : goal.returns
unfolding tabulate zeros rotl walk_offsets rho_offsets rho pi
returns c =
    λ k.
    get_or c.args.a 0 0 ∷ c.rotate_left.ensures k ∷ c.rotate_left-2.ensures k
    ∷ c.rotate_left-3.ensures k ∷ c.rotate_left-4.ensures k
    ∷ c.rotate_left-5.ensures k ∷ c.rotate_left-6.ensures k ∷ c.rotate_left-7.ensures k
    ∷ c.rotate_left-8.ensures k ∷ c.rotate_left-9.ensures k
    ∷ c.rotate_left-10.ensures k ∷ c.rotate_left-11.ensures k ∷ c.rotate_left-12.ensures k
    ∷ c.rotate_left-13.ensures k ∷ c.rotate_left-14.ensures k
    ∷ c.rotate_left-15.ensures k ∷ c.rotate_left-16.ensures k ∷ c.rotate_left-17.ensures k
    ∷ c.rotate_left-18.ensures k ∷ c.rotate_left-19.ensures k
    ∷ c.rotate_left-20.ensures k ∷ c.rotate_left-21.ensures k ∷ c.rotate_left-22.ensures k
    ∷ c.rotate_left-23.ensures k ∷ c.rotate_left-24.ensures k
    ∷ []
