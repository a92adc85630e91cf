-- Each round key follows from the two before it.
use mathlib.Core.Path.{refl, ap₂}
use mathlib.Core.List.{◌∷◌}
use native.Mathlib.Omega.{arith}
use Rattle.spec.specs.Bytes.{tabulate}
use Rattle.spec.specs.Polynomials.{product, remainder, field_product}
use Rattle.spec.specs.Gf256.{mul}
use Rattle.spec.specs.Aes.{power2}
use Rattle.aes_keys.proofs.KeyExpansion.{follows-8, odd-follows-8}
use Rattle.aes_keys.proofs.later_keys.Goals as goal

pub returns : goal.returns
unfolding tabulate product remainder field_product mul power2
returns c = λ key h6 h7.
    let h8 = follows-8 key 3 _ _ _ (omega arith) h6 h7 c.next_key-k8.ensures in
    let h9 = odd-follows-8 key 3 _ _ _ (omega arith) h7 h8 c.odd_key-k9.ensures in
    let h10 = follows-8 key 4 _ _ _ (omega arith) h8 h9 c.next_key-k10.ensures in
    let h11 = odd-follows-8 key 4 _ _ _ (omega arith) h9 h10 c.odd_key-k11.ensures in
    let h12 = follows-8 key 5 _ _ _ (omega arith) h10 h11 c.next_key-k12.ensures in
    let h13 = odd-follows-8 key 5 _ _ _ (omega arith) h11 h12 c.odd_key-k13.ensures in
    let h14 = follows-8 key 6 _ _ _ (omega arith) h12 h13 c.next_key-k14.ensures in
    ap₂ ◌∷◌ h8 (ap₂ ◌∷◌ h9 (ap₂ ◌∷◌ h10 (ap₂ ◌∷◌ h11 (ap₂ ◌∷◌ h12 (ap₂ ◌∷◌ h13 (ap₂ ◌∷◌ h14 refl))))))
