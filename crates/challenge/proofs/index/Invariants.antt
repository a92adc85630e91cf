-- From the last bit down, v is the index that the bits from j on make.
use Prim.Native.Nat.{◌+◌, ◌-◌}
use mathlib.Core.Path.{◌≡◌}
use Rattle.spec.specs.Challenge.{index_at}
use Rattle.challenge.proofs.index.Given as goal

abbrev pub invariant-loop-j : goal.invariant-loop-j
invariant-loop-j l = l.v ≡ index_at l.ch (l.at + l.j) (l.k - l.j)
