-- Three round keys out of each two blocks, and the last as it follows from them.
use mathlib.Core.Path.{◌≡◌, refl, sym, ap, ap₂, ◌∙◌}
use mathlib.Core.List.{List, [], ◌∷◌}
use Prim.Native.Nat.{ℕ}
use lib.ListN.{get_or}
use Rattle.spec.specs.Bytes.{tabulate}
use Rattle.spec.specs.Polynomials.{product, remainder, field_product}
use Rattle.spec.specs.Gf256.{mul}
use Rattle.spec.specs.Aes.{power2, round_key, key_expansion}
use Rattle.aes_keys.specs.RoundKeys.{round_keys, lower_four, next_round_key, six_words, three_keys}
use Rattle.aes_keys.proofs.KeyExpansion.{last-6}
use Rattle.aes_keys.proofs.schedule_192.Goals as goal

abbrev Blocks : Type 0
Blocks = List (List (List ℕ))

abbrev at : ℕ → Blocks → List (List ℕ)
at i x = get_or x i []

-- the round keys that the blocks b hold, with m behind them
abbrev laid : Blocks → List (List ℕ) → Blocks
laid b m =
    let i = three_keys (at 0 b) (at 1 b) in
    let j = three_keys (at 2 b) (at 3 b) in
    let k = three_keys (at 4 b) (at 5 b) in
    let l = three_keys (at 6 b) (at 7 b) in
    at 0 i ∷ at 1 i ∷ at 2 i ∷ at 0 j ∷ at 1 j ∷ at 2 j ∷ at 0 k ∷ at 1 k ∷ at 2 k ∷ at 0 l ∷ at 1 l ∷ at 2 l ∷ m ∷ []

laid-right : (key : List ℕ) → laid (tabulate 8 (six_words (key_expansion 6 key))) (round_key (key_expansion 6 key) 12) ≡ round_keys 6 key
unfolding tabulate round_keys six_words round_key
laid-right key = refl

last-key : (key : List ℕ) → next_round_key (lower_four (six_words (key_expansion 6 key) 7)) (round_key (key_expansion 6 key) 11) 128 ≡ round_key (key_expansion 6 key) 12
unfolding product remainder field_product mul power2
last-key key = sym (last-6 key)

-- the same from what the calls gave
put : (key : List ℕ) (b i j k l : Blocks) (f m : List (List ℕ)) → b ≡ tabulate 8 (six_words (key_expansion 6 key)) → i ≡ three_keys (at 0 b) (at 1 b)
    → j ≡ three_keys (at 2 b) (at 3 b) → k ≡ three_keys (at 4 b) (at 5 b) → l ≡ three_keys (at 6 b) (at 7 b) → f ≡ lower_four (at 7 b) → m ≡ next_round_key f (at 2 l) 128
    → at 0 i ∷ at 1 i ∷ at 2 i ∷ at 0 j ∷ at 1 j ∷ at 2 j ∷ at 0 k ∷ at 1 k ∷ at 2 k ∷ at 0 l ∷ at 1 l ∷ at 2 l ∷ m ∷ [] ≡ round_keys 6 key
unfolding tabulate six_words round_key
put key b i j k l f m eb ei ej ek el ef em =
    let w = key_expansion 6 key in
    let lower : f ≡ lower_four (six_words w 7) = ef ∙ ap (λ (x : Blocks). lower_four (at 7 x)) eb in
    let upper : at 2 l ≡ round_key w 11 = ap (at 2) (el ∙ ap (λ (x : Blocks). three_keys (at 6 x) (at 7 x)) eb) in
    let last : m ≡ round_key w 12 = em ∙ ap₂ (λ (x y : List (List ℕ)). next_round_key x y 128) lower upper ∙ last-key key in
    ap₂ (λ (x y : Blocks). at 0 x ∷ at 1 x ∷ at 2 x ∷ at 0 y ∷ at 1 y ∷ at 2 y ∷ at 0 k ∷ at 1 k ∷ at 2 k ∷ at 0 l ∷ at 1 l ∷ at 2 l ∷ m ∷ []) ei ej
    ∙ ap₂ (λ (x y : Blocks). let i = three_keys (at 0 b) (at 1 b) in let j = three_keys (at 2 b) (at 3 b) in at 0 i ∷ at 1 i ∷ at 2 i ∷ at 0 j ∷ at 1 j ∷ at 2 j ∷ at 0 x ∷ at 1 x ∷ at 2 x ∷ at 0 y ∷ at 1 y ∷ at 2 y ∷ m ∷ []) ek el
    ∙ ap₂ laid eb last
    ∙ laid-right key

pub returns : goal.returns
returns c =
    put c.args.key.now _ _ _ _ _ _ _ c.blocks_192-b.ensures c.three_keys-i.ensures c.three_keys-j.ensures
    c.three_keys-k.ensures c.three_keys-l.ensures c.lower_four.ensures c.next_key-m.ensures
