-- While each bit passed is 0, those from j on decide.
use Prim.Native.Nat.{◌+◌, ◌-◌}
use mathlib.Core.Path.{◌≡◌}
use Rattle.spec.specs.Challenge.{clear_at}
use Rattle.challenge.proofs.clear.Given as goal

abbrev pub invariant-loop-j : goal.invariant-loop-j
invariant-loop-j l = clear_at l.ch l.at l.n ≡ clear_at l.ch (l.at + l.j) (l.n - l.j)
