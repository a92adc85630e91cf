-- `shake::xor_block` meets its contract. The loop's invariant: the first j lanes are filled by the rule of `xor_in`, the others are as they were. Past the
-- block's 21 lanes its string has ended, so that the rule leaves them.
use mathlib.Core.Path.{◌≡◌}
use mathlib.Core.List.{List}
use Prim.Native.Nat.{ℕ}
use lib.Bits.{bit_xor}
use lib.ListN.{get_or}
use Rattle.laws.proofs.Filling.{filled}
use Rattle.spec.specs.Sponge.{lane_of}
use Rattle.shake.proofs.xor_block.Given as goal

-- lane k of the state s xored with the block
abbrev pub lane : List ℕ → List ℕ → ℕ → ℕ
lane s block k = bit_xor (get_or s k 0) (lane_of block k)

abbrev pub invariant-loop-j : goal.invariant-loop-j
invariant-loop-j l = l.t ≡ filled l.j (lane l.s l.block) l.s
