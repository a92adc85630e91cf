-- The rounds of the cipher, one by one: with the words of a key's schedule, and with a schedule that holds its round keys.
use mathlib.Core.Path.{◌≡◌, refl, ap, ap₂, ◌∙◌}
use mathlib.Core.List.{List, []}
use Prim.Native.Nat.{ℕ, zero, suc, ◌+◌, ◌-◌, ◌<◌}
use native.Mathlib.Omega.{arith}
use lib.ListN.{get_or}
use Rattle.spec.specs.Aes.{sub_bytes, shift_rows, mix_columns, add_round_key, round_of, last_round, round_key, rounds, cipher, key_expansion}
use Rattle.aes_keys.specs.Scheduled.{Schedule, Expands}
use Rattle.aes_keys.proofs.Schedules.{round-key-at}

-- a round, from its steps
pub steps-round : (x k a b d r : List (List ℕ)) → a ≡ sub_bytes x → b ≡ shift_rows a → d ≡ mix_columns b → r ≡ add_round_key d k → r ≡ round_of x k
unfolding round_of
steps-round x k a b d r ea eb ed er = cc

-- ---- with the words w of a key's schedule

-- no round
pub rounds-none : (w s : List (List ℕ)) → s ≡ rounds w s 0
unfolding rounds
rounds-none w s = refl

-- one more round
pub rounds-more : (w s a k b : List (List ℕ)) (i : ℕ) → 0 < i → k ≡ round_key w i → b ≡ round_of a k → a ≡ rounds w s (i - 1) → b ≡ rounds w s (i + 1 - 1)
unfolding rounds
rounds-more w s a k b zero h ek eb ea = absurd (omega arith)
rounds-more w s a k b (suc n) h ek eb ea =
    let one : suc n + 1 - 1 ≡ suc n = omega arith in
    let before : suc n - 1 ≡ n = omega arith in
    rw one (eb ∙ ap₂ round_of (ea ∙ ap (rounds w s) before) ek)

-- two more rounds
pub rounds-two : (w s a k l b : List (List ℕ)) (i : ℕ) → 0 < i → k ≡ round_key w i → l ≡ round_key w (i + 1) → b ≡ round_of (round_of a k) l
    → a ≡ rounds w s (i - 1) → b ≡ rounds w s (i + 2 - 1)
rounds-two w s a k l b i h ek el eb ea =
    let two : i + 2 - 1 ≡ i + 1 + 1 - 1 = omega arith in
    rw two (rounds-more w s _ l b (i + 1) (omega arith) el eb (rounds-more w s a k _ i h ek refl ea))

-- the cipher of s in m rounds, from its first key addition a, the state b before the last round, and the last round
pub cipher-of : (w s a b k l r : List (List ℕ)) (m n : ℕ) → n ≡ m → k ≡ round_key w 0 → a ≡ add_round_key s k → b ≡ rounds w a (n - 1)
    → l ≡ round_key w n → r ≡ last_round b l → r ≡ cipher m w s
unfolding cipher
cipher-of w s a b k l r m n en ek ea eb el er =
    let first : a ≡ add_round_key s (round_key w 0) = ea ∙ ap (add_round_key s) ek in
    let last : l ≡ round_key w m = el ∙ ap (round_key w) en in
    er ∙ ap₂ last_round (eb ∙ ap₂ (rounds w) first (ap (λ (i : ℕ). i - 1) en)) last

-- ---- with the schedule of a key of nk words

module _ (schedule : Schedule) (nk : ℕ) (key : List ℕ) (x : Expands nk key schedule) where
  abbrev w : List (List ℕ)
  w = key_expansion nk key

  pub after-none : (s : List (List ℕ)) → s ≡ rounds w s 0
  after-none s = rounds-none w s

  key-at : (k : List (List ℕ)) (i : ℕ) → i < nk + 7 → k ≡ get_or schedule.round_keys i [] → k ≡ round_key w i
  key-at k i h e = e ∙ round-key-at nk key schedule.round_keys i x.keyed h

  pub after-more : (s a k b : List (List ℕ)) (i : ℕ) → 0 < i → i < nk + 7 → k ≡ get_or schedule.round_keys i [] → b ≡ round_of a k
      → a ≡ rounds w s (i - 1) → b ≡ rounds w s (i + 1 - 1)
  after-more s a k b i some h ek eb ea = rounds-more w s a k b i some (key-at k i h ek) eb ea

  pub after-two : (s a k l b : List (List ℕ)) (i : ℕ) → 0 < i → i + 1 < nk + 7 → k ≡ get_or schedule.round_keys i [] → l ≡ get_or schedule.round_keys (i + 1) []
      → b ≡ round_of (round_of a k) l → a ≡ rounds w s (i - 1) → b ≡ rounds w s (i + 2 - 1)
  after-two s a k l b i some h ek el eb ea = rounds-two w s a k l b i some (key-at k i (omega arith) ek) (key-at l (i + 1) h el) eb ea

  pub cipher-is : (s a b k l r : List (List ℕ)) (n : ℕ) → n ≡ schedule.rounds → k ≡ get_or schedule.round_keys 0 [] → a ≡ add_round_key s k
      → b ≡ rounds w a (n - 1) → l ≡ get_or schedule.round_keys n [] → r ≡ last_round b l → r ≡ cipher (nk + 6) w s
  cipher-is s a b k l r n en ek ea eb el er =
      let m : n ≡ nk + 6 = en ∙ x.count in
      cipher-of w s a b k l r (nk + 6) n m (key-at k 0 (omega arith) ek) ea eb (key-at l n (omega arith) el) er
