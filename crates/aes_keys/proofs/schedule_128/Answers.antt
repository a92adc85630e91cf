-- The first round key is the key, and each step is `next_key` with the next power of {02}. One step at a time: all at once takes the check long.
use mathlib.Core.Path.{refl, sym, ap₂, ◌∙◌}
use mathlib.Core.List.{◌∷◌}
use native.Mathlib.Omega.{arith}
use Rattle.spec.specs.Bytes.{tabulate}
use Rattle.spec.specs.Polynomials.{product, remainder, field_product}
use Rattle.spec.specs.Gf256.{mul}
use Rattle.spec.specs.Aes.{power2}
use Rattle.aes_keys.specs.RoundKeys.{round_keys}
use Rattle.aes_keys.proofs.KeyExpansion.{first-keys, follows-4}
use Rattle.aes_keys.proofs.schedule_128.Goals as goal

pub returns : goal.returns
unfolding tabulate product remainder field_product mul power2 round_keys
returns c =
    let key = c.args.key.now in
    let h0 = c.four_words-k0.ensures ∙ sym (first-keys 4 key 0 (omega arith)) in
    let h1 = follows-4 key 0 _ _ (omega arith) h0 c.next_key-k1.ensures in
    let h2 = follows-4 key 1 _ _ (omega arith) h1 c.next_key-k2.ensures in
    let h3 = follows-4 key 2 _ _ (omega arith) h2 c.next_key-k3.ensures in
    let h4 = follows-4 key 3 _ _ (omega arith) h3 c.next_key-k4.ensures in
    let h5 = follows-4 key 4 _ _ (omega arith) h4 c.next_key-k5.ensures in
    let h6 = follows-4 key 5 _ _ (omega arith) h5 c.next_key-k6.ensures in
    let h7 = follows-4 key 6 _ _ (omega arith) h6 c.next_key-k7.ensures in
    let h8 = follows-4 key 7 _ _ (omega arith) h7 c.next_key-k8.ensures in
    let h9 = follows-4 key 8 _ _ (omega arith) h8 c.next_key-k9.ensures in
    let h10 = follows-4 key 9 _ _ (omega arith) h9 c.next_key-k10.ensures in
    ap₂ ◌∷◌ h0 (ap₂ ◌∷◌ h1 (ap₂ ◌∷◌ h2 (ap₂ ◌∷◌ h3 (ap₂ ◌∷◌ h4 (ap₂ ◌∷◌ h5 (ap₂ ◌∷◌ h6 (ap₂ ◌∷◌ h7 (ap₂ ◌∷◌ h8 (ap₂ ◌∷◌ h9 (ap₂ ◌∷◌ h10 refl))))))))))
