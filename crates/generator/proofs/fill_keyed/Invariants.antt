-- `generator::fill_keyed` meets its contract. The loop's invariant: the first p bytes of out are the output's from byte `first` on, of every key whose schedule it is.
-- The measure is the number of bytes left.
use Rattle.std.proofs.Common.{◌≡◌, ℕ, ◌+◌, ◌-◌, ◌≤◌, List, length}
use Rattle.job.specs.Versions.{byte_of}
use Rattle.aes_keys.specs.Scheduled.{Expands}
use Rattle.laws.specs.Front.{Front}
use Rattle.generator.proofs.fill_keyed.Given as goal

abbrev pub invariant-loop-p : goal.invariant-loop-p
invariant-loop-p l =
    (l.p ≤ length l.initial.out) × (length l.out ≡ length l.initial.out)
    × ((nk : ℕ) (key : List ℕ) → Expands nk key l.schedule → Front (λ q. byte_of nk key l.x (l.first + q)) (length l.initial.out) l.p l.out)

abbrev pub decreases-loop-p : goal.decreases-loop-p
decreases-loop-p l = length l.initial.out - l.p
