-- `aes::encrypt` meets its contract. The loops' invariant: x is the state after round i - 1, with any key whose schedule it is; in the second, i is even, and its
-- measure is the number of rounds left.
use mathlib.Core.Path.{◌≡◌}
use mathlib.Core.List.{List}
use Prim.Native.Nat.{ℕ, ◌≤◌, ◌-◌, ◌%◌}
use Rattle.spec.specs.Aes.{rounds, key_expansion}
use Rattle.aes_keys.specs.Scheduled.{Expands}
use Rattle.aes.proofs.encrypt.Given as goal

abbrev pub invariant-loop-i : goal.invariant-loop-i
invariant-loop-i l = (nk : ℕ) (key : List ℕ) → Expands nk key l.schedule → l.x ≡ rounds (key_expansion nk key) l.initial.x (l.i - 1)

abbrev pub invariant-loop-i-2 : goal.invariant-loop-i-2
invariant-loop-i-2 l =
    (10 ≤ l.i) × (l.i ≤ l.n) × (l.i % 2 ≡ 0)
    × ((nk : ℕ) (key : List ℕ) (a : List (List ℕ)) → Expands nk key l.schedule → l.initial.x ≡ rounds (key_expansion nk key) a 9 → l.x ≡ rounds (key_expansion nk key) a (l.i - 1))

abbrev pub decreases-loop-i-2 : goal.decreases-loop-i-2
decreases-loop-i-2 l = l.n - l.i
