-- `aes::later_rounds` meets its contract. The loop's invariant: x is the state after round i - 1, and i is even. The measure is the number of rounds left.
use mathlib.Core.Path.{◌≡◌}
use mathlib.Core.List.{List}
use Prim.Native.Nat.{ℕ, ◌≤◌, ◌-◌, ◌%◌}
use Rattle.spec.specs.Aes.{rounds, key_expansion}
use Rattle.aes_keys.specs.Scheduled.{Expands}
use Rattle.aes.proofs.later_rounds.Given as goal

abbrev pub invariant-loop-i : goal.invariant-loop-i
invariant-loop-i l =
    (10 ≤ l.i) × (l.i ≤ l.n) × (l.i % 2 ≡ 0)
    × ((nk : ℕ) (key : List ℕ) (a : List (List ℕ)) → Expands nk key l.schedule → l.fn.s ≡ rounds (key_expansion nk key) a 9 → l.x ≡ rounds (key_expansion nk key) a (l.i - 1))

abbrev pub decreases-loop-i : goal.decreases-loop-i
decreases-loop-i l = l.n - l.i
