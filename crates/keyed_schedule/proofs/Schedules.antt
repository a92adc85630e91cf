-- A schedule that holds the round keys of the key that they begin with is that key's.
use mathlib.Core.Path.{◌≡◌}
use mathlib.Core.List.{List}
use Prim.Native.Nat.{ℕ, ◌-◌, ◌≤◌}
use native.Mathlib.Omega.{arith}
use Rattle.aes_keys.specs.RoundKeys.{words, Keyed, key_of}
use Rattle.aes_keys.specs.Scheduled.{Schedule, Expands}
use Rattle.aes_keys.proofs.Schedules.{rounds-are}

pub expands : (s : Schedule) (key : List ℕ) → 10 ≤ s.rounds → Keyed (s.rounds - 6) (key_of (s.rounds - 6) s.round_keys) s.round_keys
    → key_of (s.rounds - 6) s.round_keys ≡ key → Expands (words key) key s
expands s key least keyed e =
    let n = rounds-are s.rounds s.round_keys key least e in
    let nk : s.rounds - 6 ≡ words key = omega arith in
    record {
      count = n;
      keyed = rw nk at (rw e at keyed);
    }
