-- What a key schedule holds: a round key at its place, and the key, byte by byte, in the first round keys.
use mathlib.Core.Path.{◌≡◌, refl, sym, ap, ◌∙◌}
use mathlib.Core.List.{List, [], ◌∷◌}
use Prim.Native.Nat.{ℕ, ◌+◌, ◌*◌, ◌/◌, ◌%◌, ◌-◌, ◌≤◌, ◌<◌}
use native.Mathlib.Omega.{arith}
use lib.ListN.{length, get_or}
use lib.Seq.{get_or-take}
use Rattle.spec.specs.Bytes.{tabulate}
use Rattle.spec.specs.Aes.{column, round_key, key_expansion}
use Rattle.laws.proofs.Lists.{length-tabulate, get_or-tabulate, is-tabulate}
use Rattle.aes_keys.specs.RoundKeys.{words, round_keys, Keyed, key_of}
use Rattle.aes_keys.proofs.KeyExpansion.{key-words}

module _ {A : Type 0} (d : A) where
  -- a list is its elements
  pub four : (a : List A) → length a ≡ 4 → get_or a 0 d ∷ get_or a 1 d ∷ get_or a 2 d ∷ get_or a 3 d ∷ [] ≡ a
  unfolding tabulate
  four a e = sym (is-tabulate 4 (λ i. get_or a i d) d a e (λ i h. refl))

  at-four : (f : ℕ → A) (i : ℕ) → i < 4 → get_or (f 0 ∷ f 1 ∷ f 2 ∷ f 3 ∷ []) i d ≡ f i
  unfolding tabulate
  at-four f i h = get_or-tabulate 4 f i d h

pub round-key-at : (nk : ℕ) (key : List ℕ) (keys : List (List (List ℕ))) (i : ℕ) → Keyed nk key keys → i < nk + 7 → get_or keys i [] ≡ round_key (key_expansion nk key) i
unfolding round_keys
round-key-at nk key keys i e h =
    sym (get_or-take (nk + 7) keys i [] h) ∙ ap (λ (l : List (List (List ℕ))). get_or l i []) e ∙ get_or-tabulate (nk + 7) (round_key (key_expansion nk key)) i [] h

key-byte : (nk : ℕ) (key : List ℕ) (keys : List (List (List ℕ))) (b : ℕ) → Keyed nk key keys → b < 4 * nk
    → get_or key b 0 ≡ get_or (get_or (get_or keys (b / 16) []) (b / 4 % 4) []) (b % 4) 0
unfolding round_key
key-byte nk key keys b k h =
    let w = key_expansion nk key in
    let i : 4 * (b / 16) + b / 4 % 4 ≡ b / 4 = omega arith in
    let r : 4 * (b / 4) + b % 4 ≡ b = omega arith in
    let in-round = at-four [] (λ c. column w (4 * (b / 16) + c)) (b / 4 % 4) (omega arith) in
    let in-word = at-four 0 (λ r. get_or key (4 * (b / 4) + r) 0) (b % 4) (omega arith) in
    sym
    (ap (λ (x : List (List ℕ)). get_or (get_or x (b / 4 % 4) []) (b % 4) 0) (round-key-at nk key keys (b / 16) k (omega arith))
    ∙ ap (λ (x : List ℕ). get_or x (b % 4) 0) (in-round ∙ ap (column w) i ∙ key-words nk key (b / 4) (omega arith))
    ∙ in-word ∙ ap (λ (n : ℕ). get_or key n 0) r)

pub key-shown : (nk : ℕ) (key : List ℕ) (keys : List (List (List ℕ))) → length key ≡ 4 * nk → Keyed nk key keys → key_of nk keys ≡ key
unfolding key_of
key-shown nk key keys l k =
    sym (is-tabulate (4 * nk) (λ b. get_or (get_or (get_or keys (b / 16) []) (b / 4 % 4) []) (b % 4) 0) 0 key l (λ b h. key-byte nk key keys b k h))

-- the rounds are the key's
pub rounds-are : (n : ℕ) (keys : List (List (List ℕ))) (key : List ℕ) → 10 ≤ n → key_of (n - 6) keys ≡ key → n ≡ words key + 6
unfolding key_of
rounds-are n keys key h e =
    let l : length key ≡ 4 * (n - 6) = ap length (sym e) ∙ length-tabulate (4 * (n - 6)) _ in
    omega arith

-- the round keys of a key begin with it
module _ (key : List ℕ) (keys : List (List (List ℕ))) (least : 16 ≤ length key) (eight : length key % 8 ≡ 0) (k : Keyed (words key) key keys) where
  number : words key + 6 - 6 ≡ words key
  number = omega arith

  pub shown : key_of (words key + 6 - 6) keys ≡ key
  shown =
      let l : length key ≡ 4 * words key = omega arith in
      rw number (key-shown (words key) key keys l k)

  pub scheduled : Keyed (words key + 6 - 6) (key_of (words key + 6 - 6) keys) keys
  scheduled = rw (shown, number) k
