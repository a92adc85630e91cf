-- The first block is the key, and each later one follows from the one before it, with the next power of {02}. One step at a time: all at once takes the check long.
use mathlib.Core.Path.{refl, sym, ap₂, ◌∙◌}
use mathlib.Core.List.{◌∷◌}
use native.Mathlib.Omega.{arith}
use Rattle.spec.specs.Bytes.{tabulate}
use Rattle.spec.specs.Polynomials.{product, remainder, field_product}
use Rattle.spec.specs.Gf256.{mul}
use Rattle.spec.specs.Aes.{power2}
use Rattle.aes_keys.proofs.KeyExpansion.{first-6, follows-6}
use Rattle.aes_keys.proofs.blocks_192.Goals as goal

pub returns : goal.returns
unfolding tabulate product remainder field_product mul power2
returns c =
    let key = c.args.key.now in
    let h0 = c.six_words-b0.ensures ∙ sym (first-6 key) in
    let h1 = follows-6 key 0 _ _ (omega arith) h0 c.next_six-b1.ensures in
    let h2 = follows-6 key 1 _ _ (omega arith) h1 c.next_six-b2.ensures in
    let h3 = follows-6 key 2 _ _ (omega arith) h2 c.next_six-b3.ensures in
    let h4 = follows-6 key 3 _ _ (omega arith) h3 c.next_six-b4.ensures in
    let h5 = follows-6 key 4 _ _ (omega arith) h4 c.next_six-b5.ensures in
    let h6 = follows-6 key 5 _ _ (omega arith) h5 c.next_six-b6.ensures in
    let h7 = follows-6 key 6 _ _ (omega arith) h6 c.next_six-b7.ensures in
    ap₂ ◌∷◌ h0 (ap₂ ◌∷◌ h1 (ap₂ ◌∷◌ h2 (ap₂ ◌∷◌ h3 (ap₂ ◌∷◌ h4 (ap₂ ◌∷◌ h5 (ap₂ ◌∷◌ h6 (ap₂ ◌∷◌ h7 refl)))))))
