-- The key schedule word by word, by induction on the number of words; and from that by whole round keys, and by blocks of six words.
use mathlib.Core.Path.{◌≡◌, refl, sym, ap, ap₂, ◌∙◌}
use mathlib.Core.List.{List, [], ◌∷◌}
use Prim.Native.Nat.{ℕ, zero, suc, ◌+◌, ◌*◌, ◌/◌, ◌%◌, ◌-◌, ◌≤◌, ◌<◌}
use native.Mathlib.Nat.{add-zero, add_assoc}
use native.Mathlib.Decide.{dec_lt}
use native.Mathlib.Omega.{arith}
use borrow.Author.Tests.{eq-eqb, ne_eqb}
use lib.ListN.{length, length-append, get_or-append}
use lib.Seq.{get_or_at}
use Rattle.spec.specs.Bytes.{tabulate}
use Rattle.spec.specs.Aes.{column, state, word_at, xor_word, sub_word, rot_word, round_key, power2, rcon, schedule_core, next_word, schedule, key_expansion}
use Rattle.aes_keys.specs.RoundKeys.{next_round_key, odd_round_key, six_of, six_words, lower_four, next_six}
use Rattle.laws.proofs.Lists.{length-tabulate, get_or-tabulate}

-- word i as it follows from the words before it
abbrev following : ℕ → List (List ℕ) → ℕ → List ℕ
following nk w i = xor_word (column w (i - nk)) (schedule_core nk i (column w (i - 1)))

module _ (nk : ℕ) (key : List (List ℕ)) (long : length key ≡ nk) (some : 0 < nk) where
  length-schedule : (n : ℕ) → length (schedule nk key n) ≡ nk + n
  unfolding schedule
  length-schedule zero = omega arith
  length-schedule (suc n) = let e = length-schedule n in simp length-append (omega arith)

  -- a word that is there stays
  kept : (n i : ℕ) → i < nk + n → column (schedule nk key (suc n)) i ≡ column (schedule nk key n) i
  unfolding schedule
  kept n i h = get_or-append (schedule nk key n) (next_word nk (schedule nk key n) ∷ []) [] i (rw (length-schedule n) h)

  first-words : (n i : ℕ) → i < nk → column (schedule nk key n) i ≡ column key i
  unfolding schedule
  first-words zero i h = refl
  first-words (suc n) i h = kept n i (omega arith) ∙ first-words n i h

  -- the word that is added
  added : (n i : ℕ) → i ≡ nk + n → column (schedule nk key (suc n)) i ≡ following nk (schedule nk key n) i
  unfolding schedule next_word
  added n i e =
      get_or_at (schedule nk key n) (next_word nk (schedule nk key n)) [] [] i (length-schedule n ∙ sym e)
      ∙ ap (following nk (schedule nk key n)) (length-schedule n ∙ sym e)

  follows-more : (n i : ℕ) → nk ≤ i → i < nk + suc n → (i < nk + n → column (schedule nk key n) i ≡ following nk (schedule nk key n) i) → Dec (i < nk + n)
      → column (schedule nk key (suc n)) i ≡ following nk (schedule nk key (suc n)) i
  follows-more n i a h before d =
      rw (kept n (i - nk) (omega arith), kept n (i - 1) (omega arith)) (word d)
    where
      word : Dec (i < nk + n) → column (schedule nk key (suc n)) i ≡ following nk (schedule nk key n) i
      word (yes l) = kept n i l ∙ before l
      word (no l) = added n i (omega arith)

  follows : (n i : ℕ) → nk ≤ i → i < nk + n → column (schedule nk key n) i ≡ following nk (schedule nk key n) i
  follows zero i a h = absurd (omega arith)
  follows (suc n) i a h = follows-more n i a h (follows n i a) (dec_lt i (nk + n))

-- the words of the key, and each later word
pub key-words : (nk : ℕ) (key : List ℕ) (i : ℕ) → i < nk → column (key_expansion nk key) i ≡ word_at key i
unfolding key_expansion
key-words nk key i h =
    first-words nk (tabulate nk (word_at key)) (length-tabulate nk (word_at key)) (omega arith) (3 * nk + 28) i h
    ∙ get_or-tabulate nk (word_at key) i [] h

pub word-follows : (nk : ℕ) (key : List ℕ) (i : ℕ) → 0 < nk → nk ≤ i → i < 4 * nk + 28 → column (key_expansion nk key) i ≡ following nk (key_expansion nk key) i
unfolding key_expansion
word-follows nk key i p a h = follows nk (tabulate nk (word_at key)) (length-tabulate nk (word_at key)) p (3 * nk + 28) i a (omega arith)

-- ---- what becomes of the word before, by the place i of the word

-- the first of a key's length
first-core : (nk n i : ℕ) (temp : List ℕ) → i % nk ≡ 0 → i / nk - 1 ≡ n → schedule_core nk i temp ≡ xor_word (sub_word (rot_word temp)) (power2 n ∷ 0 ∷ 0 ∷ 0 ∷ [])
unfolding schedule_core rcon
first-core nk n i temp m d = simp (eq-eqb (i % nk) 0 m, d)

-- the middle one, for keys of 8 words
middle-core : (i : ℕ) (temp : List ℕ) → i % 8 ≡ 4 → schedule_core 8 i temp ≡ sub_word temp
unfolding schedule_core
middle-core i temp m = simp m

-- any other
abbrev Plain : ℕ → ℕ → Type 0
Plain nk i = (temp : List ℕ) → schedule_core nk i temp ≡ temp

plain-4 : (i : ℕ) → (i % 4 ≡ 0 → ⊥) → Plain 4 i
unfolding schedule_core
plain-4 i h temp = simp (ne_eqb (i % 4) 0 h)

plain-6 : (i : ℕ) → (i % 6 ≡ 0 → ⊥) → Plain 6 i
unfolding schedule_core
plain-6 i h temp = simp (ne_eqb (i % 6) 0 h)

plain-8 : (i : ℕ) → (i % 8 ≡ 0 → ⊥) → (i % 8 ≡ 4 → ⊥) → Plain 8 i
unfolding schedule_core
plain-8 i h l temp = simp (ne_eqb (i % 8) 0 h, ne_eqb (i % 8) 4 l)

-- ---- four words at once

-- the four words of w from word j on
unfoldable run : List (List ℕ) → ℕ → List (List ℕ)
run w j = state (λ c. column w (j + c))

module _ (nk : ℕ) (key : List ℕ) (some : 0 < nk) where
  abbrev w : List (List ℕ)
  w = key_expansion nk key

  -- word j, with the word a key's length before it and the one just before it by their numbers
  word-from : (j a b : ℕ) → j < 4 * nk + 28 → a + nk ≡ j → b + 1 ≡ j → column w j ≡ xor_word (column w a) (schedule_core nk j (column w b))
  word-from j a b high ea eb =
      let da : a ≡ j - nk = omega arith in
      let db : b ≡ j - 1 = omega arith in
      rw (da, db) (word-follows nk key j some (omega arith) high)

  next_word_lem : (j a c : ℕ) → a + nk ≡ j → j + suc c < 4 * nk + 28 → Plain nk (j + suc c) → column w (j + suc c) ≡ xor_word (column w (a + suc c)) (column w (j + c))
  next_word_lem j a c ea high plain =
      word-from (j + suc c) (a + suc c) (j + c) high (omega arith) (omega arith) ∙ ap (xor_word (column w (a + suc c))) (plain (column w (j + c)))

  -- the words from j on, the first of a key's length; those a key's length before begin at a, those just before at p
  next-run : (n j a p : ℕ) → j % nk ≡ 0 → j / nk - 1 ≡ n → a + nk ≡ j → p + 4 ≡ j → j + 3 < 4 * nk + 28 → ((c : ℕ) → c < 3 → Plain nk (j + suc c))
      → run w j ≡ next_round_key (run w a) (run w p) (power2 n)
  unfolding run next_round_key
  next-run n j a p m d ea ep high plain =
      let first : column w (j + 0) ≡ xor_word (column w (a + 0)) (xor_word (sub_word (rot_word (column w (p + 3)))) (power2 n ∷ 0 ∷ 0 ∷ 0 ∷ [])) =
      word-from (j + 0) (a + 0) (p + 3) (omega arith) (omega arith) (omega arith)
      ∙ ap (xor_word (column w (a + 0))) (first-core nk n (j + 0) (column w (p + 3)) (rw add-zero m) (rw add-zero d)) in
      cc (
        first,
        next_word_lem j a 0 ea (omega arith) (plain 0 (omega arith)),
        next_word_lem j a 1 ea (omega arith) (plain 1 (omega arith)),
        next_word_lem j a 2 ea (omega arith) (plain 2 (omega arith)),
      )

-- round key i, all of whose words are the key's
pub first-keys : (nk : ℕ) (key : List ℕ) (i : ℕ) → 4 * i + 3 < nk → round_key (key_expansion nk key) i ≡ state (λ c. word_at key (4 * i + c))
unfolding round_key
first-keys nk key i h =
    rw (
      key-words nk key (4 * i + 0) (omega arith),
      key-words nk key (4 * i + 1) (omega arith),
      key-words nk key (4 * i + 2) (omega arith),
      key-words nk key (4 * i + 3) (omega arith),
    )

-- ---- keys of 4 words

next-4 : (key : List ℕ) (n : ℕ) → n < 10
    → round_key (key_expansion 4 key) (n + 1) ≡ next_round_key (round_key (key_expansion 4 key) n) (round_key (key_expansion 4 key) n) (power2 n)
unfolding run round_key
next-4 key n h =
    next-run 4 key (omega arith) n (4 * (n + 1)) (4 * n) (4 * n) (omega arith) (omega arith) (omega arith) (omega arith) (omega arith)
    (λ c hc. plain-4 (4 * (n + 1) + suc c) (λ e. omega arith))

-- the same of round keys at hand
pub follows-4 : (key : List ℕ) (n : ℕ) (k r : List (List ℕ)) → n < 10 → k ≡ round_key (key_expansion 4 key) n → r ≡ next_round_key k k (power2 n)
    → r ≡ round_key (key_expansion 4 key) (n + 1)
follows-4 key n k r h e er = er ∙ ap (λ (x : List (List ℕ)). next_round_key x x (power2 n)) e ∙ sym (next-4 key n h)

-- ---- keys of 8 words

next-8 : (key : List ℕ) (n : ℕ) → n < 7
    → round_key (key_expansion 8 key) (2 * n + 2) ≡ next_round_key (round_key (key_expansion 8 key) (2 * n)) (round_key (key_expansion 8 key) (2 * n + 1)) (power2 n)
unfolding run round_key
next-8 key n h =
    next-run 8 key (omega arith) n (4 * (2 * n + 2)) (4 * (2 * n)) (4 * (2 * n + 1)) (omega arith) (omega arith) (omega arith) (omega arith) (omega arith)
    (λ c hc. plain-8 (4 * (2 * n + 2) + suc c) (λ e. omega arith) (λ e. omega arith))

odd-8 : (key : List ℕ) (n : ℕ) → n < 6
    → round_key (key_expansion 8 key) (2 * n + 3) ≡ odd_round_key (round_key (key_expansion 8 key) (2 * n + 1)) (round_key (key_expansion 8 key) (2 * n + 2))
unfolding round_key odd_round_key
odd-8 key n h =
    let w = key_expansion 8 key in
    let j = 4 * (2 * n + 3) in
    let a = 4 * (2 * n + 1) in
    let p = 4 * (2 * n + 2) in
    let plain : (c : ℕ) → c < 3 → Plain 8 (j + suc c) = λ c hc. plain-8 (j + suc c) (λ e. omega arith) (λ e. omega arith) in
    let first : column w (j + 0) ≡ xor_word (column w (a + 0)) (sub_word (column w (p + 3))) =
    word-from 8 key (omega arith) (j + 0) (a + 0) (p + 3) (omega arith) (omega arith) (omega arith)
    ∙ ap (xor_word (column w (a + 0))) (middle-core (j + 0) (column w (p + 3)) (omega arith)) in
    cc (
      first,
      next_word_lem 8 key (omega arith) j a 0 (omega arith) (omega arith) (plain 0 (omega arith)),
      next_word_lem 8 key (omega arith) j a 1 (omega arith) (omega arith) (plain 1 (omega arith)),
      next_word_lem 8 key (omega arith) j a 2 (omega arith) (omega arith) (plain 2 (omega arith)),
    )

pub follows-8 : (key : List ℕ) (n : ℕ) (k p r : List (List ℕ)) → n < 7 → k ≡ round_key (key_expansion 8 key) (2 * n) → p ≡ round_key (key_expansion 8 key) (2 * n + 1)
    → r ≡ next_round_key k p (power2 n) → r ≡ round_key (key_expansion 8 key) (2 * n + 2)
follows-8 key n k p r h ek ep er = er ∙ ap₂ (λ (x y : List (List ℕ)). next_round_key x y (power2 n)) ek ep ∙ sym (next-8 key n h)

pub odd-follows-8 : (key : List ℕ) (n : ℕ) (k p r : List (List ℕ)) → n < 6 → k ≡ round_key (key_expansion 8 key) (2 * n + 1)
    → p ≡ round_key (key_expansion 8 key) (2 * n + 2) → r ≡ odd_round_key k p → r ≡ round_key (key_expansion 8 key) (2 * n + 3)
odd-follows-8 key n k p r h ek ep er = er ∙ ap₂ odd_round_key ek ep ∙ sym (odd-8 key n h)

-- ---- keys of 6 words

pub first-6 : (key : List ℕ) → six_words (key_expansion 6 key) 0 ≡ six_of (word_at key)
unfolding six_words
first-6 key =
    rw (
      key-words 6 key 0 (omega arith),
      key-words 6 key 1 (omega arith),
      key-words 6 key 2 (omega arith),
      key-words 6 key 3 (omega arith),
      key-words 6 key 4 (omega arith),
      key-words 6 key 5 (omega arith),
    )

upper-words : (w : List (List ℕ)) (a : ℕ) → run w (a + 2) ≡ column w (a + 2) ∷ column w (a + 3) ∷ column w (a + 4) ∷ column w (a + 5) ∷ []
unfolding run
upper-words w a = rw (add_assoc a 2 0, add_assoc a 2 1, add_assoc a 2 2, add_assoc a 2 3)

next-6 : (key : List ℕ) (n : ℕ) → n < 7 → six_words (key_expansion 6 key) (n + 1) ≡ next_six (six_words (key_expansion 6 key) n) (power2 n)
unfolding run six_words next_six
next-6 key n h =
    let w = key_expansion 6 key in
    let j = 6 * (n + 1) in
    let a = 6 * n in
    let plain : (c : ℕ) → c < 5 → Plain 6 (j + suc c) = λ c hc. plain-6 (j + suc c) (λ e. omega arith) in
    let upper : run w (a + 2) ≡ column w (a + 2) ∷ column w (a + 3) ∷ column w (a + 4) ∷ column w (a + 5) ∷ [] = upper-words w a in
    let four = next-run 6 key (omega arith) n j a (a + 2) (omega arith) (omega arith) (omega arith) (omega arith) (omega arith) (λ c hc. plain c (omega arith)) in
    cc (
      four,
      upper,
      next_word_lem 6 key (omega arith) j a 3 (omega arith) (omega arith) (plain 3 (omega arith)),
      next_word_lem 6 key (omega arith) j a 4 (omega arith) (omega arith) (plain 4 (omega arith)),
    )

pub follows-6 : (key : List ℕ) (n : ℕ) (k r : List (List ℕ)) → n < 7 → k ≡ six_words (key_expansion 6 key) n → r ≡ next_six k (power2 n)
    → r ≡ six_words (key_expansion 6 key) (n + 1)
follows-6 key n k r h e er = er ∙ ap (λ (x : List (List ℕ)). next_six x (power2 n)) e ∙ sym (next-6 key n h)

-- round key 12, which ends inside a block
pub last-6 : (key : List ℕ) → round_key (key_expansion 6 key) 12 ≡ next_round_key (lower_four (six_words (key_expansion 6 key) 7)) (round_key (key_expansion 6 key) 11) (power2 7)
unfolding run round_key six_words
last-6 key =
    next-run 6 key (omega arith) 7 48 42 44 (omega arith) (omega arith) (omega arith) (omega arith) (omega arith)
    (λ c hc. plain-6 (48 + suc c) (λ e. omega arith))
