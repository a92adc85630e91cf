-- The first two round keys are the key, and each later one follows from the two before it. One step at a time: all at once takes the check long.
use mathlib.Core.Path.{refl, sym, ap₂, ◌∙◌}
use mathlib.Core.List.{◌∷◌}
use native.Mathlib.Omega.{arith}
use Rattle.spec.specs.Bytes.{tabulate}
use Rattle.spec.specs.Polynomials.{product, remainder, field_product}
use Rattle.spec.specs.Gf256.{mul}
use Rattle.spec.specs.Aes.{power2}
use Rattle.aes_keys.proofs.KeyExpansion.{first-keys, follows-8, odd-follows-8}
use Rattle.aes_keys.proofs.first_keys.Goals as goal

pub returns : goal.returns
unfolding tabulate product remainder field_product mul power2
returns c =
    let key = c.args.key.now in
    let h0 = c.four_words-k0.ensures ∙ sym (first-keys 8 key 0 (omega arith)) in
    let h1 = c.four_words-k1.ensures ∙ sym (first-keys 8 key 1 (omega arith)) in
    let h2 = follows-8 key 0 _ _ _ (omega arith) h0 h1 c.next_key-k2.ensures in
    let h3 = odd-follows-8 key 0 _ _ _ (omega arith) h1 h2 c.odd_key-k3.ensures in
    let h4 = follows-8 key 1 _ _ _ (omega arith) h2 h3 c.next_key-k4.ensures in
    let h5 = odd-follows-8 key 1 _ _ _ (omega arith) h3 h4 c.odd_key-k5.ensures in
    let h6 = follows-8 key 2 _ _ _ (omega arith) h4 h5 c.next_key-k6.ensures in
    let h7 = odd-follows-8 key 2 _ _ _ (omega arith) h5 h6 c.odd_key-k7.ensures in
    ap₂ ◌∷◌ h0 (ap₂ ◌∷◌ h1 (ap₂ ◌∷◌ h2 (ap₂ ◌∷◌ h3 (ap₂ ◌∷◌ h4 (ap₂ ◌∷◌ h5 (ap₂ ◌∷◌ h6 (ap₂ ◌∷◌ h7 refl)))))))
