-- `aes::encrypt_pair` meets its contract. The loop's invariant: x and y are the two states after round i - 1, with any key whose schedule it is. Then both are the
-- states before the last round, of either way of the branch.
use mathlib.Core.Path.{◌≡◌}
use mathlib.Core.List.{List}
use Prim.Native.Nat.{ℕ, ◌-◌}
use Rattle.spec.specs.Aes.{rounds, key_expansion}
use Rattle.aes_keys.specs.Scheduled.{Expands}
use Rattle.aes.proofs.encrypt_pair.Given as goal

abbrev pub invariant-loop-i : goal.invariant-loop-i
invariant-loop-i l =
    (nk : ℕ) (key : List ℕ) → Expands nk key l.schedule
    → (l.x ≡ rounds (key_expansion nk key) l.initial.x (l.i - 1)) × (l.y ≡ rounds (key_expansion nk key) l.initial.y (l.i - 1))
