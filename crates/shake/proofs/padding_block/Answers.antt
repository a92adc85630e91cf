-- The last byte is xored where it stands, which the definition does with a string of its own.
use mathlib.Core.Path.{◌≡◌, sym, ap, ◌∙◌}
use mathlib.Core.List.{List, [], ◌∷◌, ◌++◌}
use Prim.Native.Nat.{ℕ, suc, ◌-◌, ◌≤◌, ◌<◌}
use native.Mathlib.Omega.{arith}
use lib.Bits.{bit_xor}
use lib.ListN.{length, get_or, set, take}
use Rattle.laws.proofs.Lists.{length-zeros}
use Rattle.laws.proofs.Strings.{take-zeros, set-xor}
use Rattle.spec.specs.Bytes.{zeros, xor_bytes}
use Rattle.spec.specs.Sponge.{padding, shake_suffix}
use Rattle.shake.proofs.padding_block.Goals as goal

-- over the suffix and the length of the block
module _ (suffix rest n : ℕ) (pos : 0 < n) (le : n ≤ suc rest) where
  abbrev block : List ℕ
  block = suffix ∷ zeros rest

  last-xored : take n (set block (n - 1) (bit_xor (get_or block (n - 1) 0) 0x80)) ≡ padding suffix n
  unfolding padding
  last-xored =
      let e : suc (n - 1) ≡ n = omega arith in
      let within : n - 1 < length block = rw length-zeros (omega arith) in
      ap (λ (k : ℕ). take k (set block (n - 1) (bit_xor (get_or block (n - 1) 0) 0x80))) (sym e)
      ∙ set-xor block (n - 1) 0x80 within
      ∙ ap (λ (l : List ℕ). xor_bytes (suffix ∷ l) (zeros (n - 1) ++ (0x80 ∷ []))) (take-zeros (n - 1) rest (omega arith))

pub returns : goal.returns
unfolding zeros
returns c = last-xored shake_suffix 167 c.args.n c.requires.0 c.requires.1
