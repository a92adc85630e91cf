-- `shake::state_bytes` meets its contract. The loop's invariant: the first 8 j bytes are filled by the rule of the state's bytes. A lane's eight digits are
-- its eight bytes of the state.
use mathlib.Core.Path.{◌≡◌}
use Prim.Native.Nat.{◌*◌}
use Rattle.laws.proofs.Filling.{filled}
use Rattle.spec.specs.Sponge.{state_byte}
use Rattle.shake.proofs.state_bytes.Given as goal

abbrev pub invariant-loop-j : goal.invariant-loop-j
invariant-loop-j l = l.block ≡ filled (8 * l.j) (state_byte l.s) l.initial.block
