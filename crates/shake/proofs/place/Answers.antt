-- What `copy` leaves of the zeros, before and behind the part, is zeros.
use mathlib.Core.Path.{◌≡◌}
use mathlib.Core.List.{List, ◌++◌, append-nil}
use Prim.Native.Nat.{ℕ, ◌+◌, ◌-◌, ◌≤◌}
use native.Mathlib.Nat.{sub_self}
use native.Mathlib.Omega.{arith}
use lib.ListN.{length, take, drop}
use Rattle.laws.proofs.Strings.{take-zeros, drop-zeros}
use Rattle.spec.specs.Bytes.{zeros}
use Rattle.shake.proofs.place.Goals as goal

-- over a length n, in the place of 168
placed : (n at : ℕ) (p ys : List ℕ) → at + length p ≤ n → ys ≡ p ++ drop (length p) (take (n - at) (drop at (zeros n)))
    → take at (zeros n) ++ (ys ++ drop (n - at) (drop at (zeros n))) ≡ zeros at ++ (p ++ zeros (n - at - length p))
unfolding zeros
placed n at p ys h e =
    rw (
      e,
      take-zeros at n (omega arith),
      drop-zeros at n,
      take-zeros (n - at) (n - at) (omega arith),
      drop-zeros (length p) (n - at),
      drop-zeros (n - at) (n - at),
      sub_self (n - at),
      append-nil,
    )

pub returns : goal.returns
unfolding zeros
returns c =
    placed 168 c.args.at c.args.part.now c.copy.new.dst c.requires c.copy.ensures
