-- `keccak::keccak_f` meets its contract. The loop's invariant: after as many turns as constants were taken the state is that of as many rounds.
use mathlib.Core.Path.{◌≡◌}
use Rattle.spec.specs.Keccak.{first_rounds}
use Rattle.keccak.proofs.keccak_f.Given as goal

abbrev pub invariant-loop-constant : goal.invariant-loop-constant
invariant-loop-constant l = l.s ≡ first_rounds l.constant-index l.initial.s
