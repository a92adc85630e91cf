-- `rows::add_row` meets its contract. The loop's invariant: the row's bytes from byte `first` on have been added to the sum's bytes below `at`. The measure is the
-- number of bytes left.
use Prim.Native.Nat.{◌+◌, ◌-◌, ◌≤◌}
use Rattle.aes_keys.specs.RoundKeys.{words}
use Rattle.job.specs.Versions.{byte_of}
use Rattle.columns.specs.Columns.{Xored}
use Rattle.rows.proofs.add_row.Given as goal

abbrev pub invariant-loop-at : goal.invariant-loop-at
invariant-loop-at l =
    (l.at ≤ l.b) × Xored 0 l.at (λ p. byte_of (words l.seed) l.seed l.x (l.first + p)) l.initial.sum l.sum

abbrev pub decreases-loop-at : goal.decreases-loop-at
decreases-loop-at l = l.b - l.at
