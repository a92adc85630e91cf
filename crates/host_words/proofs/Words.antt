-- A number in four bytes, lists of such numbers, and how many of them a slice holds. By the laws of lists.
use Prim.Native.Nat.{ℕ, ◌+◌, ◌*◌, ◌/◌, ◌%◌, ◌≤◌, ◌<◌}
use mathlib.Core.Path.{◌≡◌, sym, ap, ◌∙◌}
use mathlib.Core.List.{List, [], ◌∷◌, ◌++◌, append_assoc, append-nil}
use native.Mathlib.Omega.{arith}
use native.Mathlib.Nat.{div-one, mul-suc}
use native.Mathlib.Numerals.{add-one}
use lib.Dec.{eqb}
use lib.ListN.{length, get_or, set, take, drop, length-append, length-drop}
use lib.Seq.{take-suc, take_at, drop_at, drop-drop, length-take-le}
use borrow.Author.Tests.{ne_eqb}
use Rattle.spec.specs.Bytes.{tabulate, digits}
use Rattle.spec.specs.HostCalls.{word_bytes}
use Rattle.laws.proofs.Words.{same_test, words-length, words_append}

-- ---- how many numbers a slice of n bytes holds

pub no-list : (most n m : ℕ) → m < most → (n ≡ 4 * m → ⊥) → eqb most m ≡ eqb n (4 * m)
no-list most n m l h = ne_eqb most m (omega arith) ∙ sym (ne_eqb n (4 * m) h)

pub quarter : (n m : ℕ) → n % 4 ≡ 0 → eqb (n / 4) m ≡ eqb n (4 * m)
quarter n m h = same_test (n / 4) m n (4 * m) (λ e. omega arith) (λ e. omega arith)

-- ---- a number

-- four bytes, stored
pub stored : (x : ℕ) (l : List ℕ) → length l ≡ 4
    → set (set (set (set l 0 (x % 256)) 1 (x / 256 % 256)) 2 (x / 65536 % 256)) 3 (x / 16777216 % 256) ≡ digits 8 4 x
unfolding tabulate digits
stored x [] h = absurd (omega arith)
stored x (a ∷ []) h = absurd (omega arith)
stored x (a ∷ (b ∷ [])) h = absurd (omega arith)
stored x (a ∷ (b ∷ (c ∷ []))) h = absurd (omega arith)
stored x (a ∷ (b ∷ (c ∷ (d ∷ [])))) h = simp div-one
stored x (a ∷ (b ∷ (c ∷ (d ∷ (e ∷ l))))) h = absurd (omega arith)

-- ---- a list of numbers

-- the first i numbers of xs in the place of the bytes of out
abbrev pub words_to : List ℕ → ℕ → List ℕ → List ℕ
words_to xs i out = word_bytes (take i xs) ++ drop (4 * i) out

module _ (xs out : List ℕ) (i : ℕ) where
  front_length : i ≤ length xs → length (word_bytes (take i xs)) ≡ 4 * i
  front_length h = words-length (take i xs) ∙ ap (λ (n : ℕ). 4 * n) (length-take-le i xs h)

  pub words-to-length : i ≤ length xs → 4 * length xs ≤ length out → length (words_to xs i out) ≡ length out
  words-to-length h l = length-append (word_bytes (take i xs)) (drop (4 * i) out) ∙ omega (arith, front_length h, length-drop (4 * i) out)

  -- the next number, as a part that comes back
  pub words-next : (ys zs : List ℕ) (n : ℕ) → i < length xs → n ≡ 4 → ys ≡ words_to xs i out → zs ≡ digits 8 4 (get_or xs i 0)
      → take (4 * i) ys ++ (zs ++ drop n (drop (4 * i) ys)) ≡ words_to xs (i + 1) out
  unfolding word_bytes
  words-next ys zs n h m e f =
      let l = front_length (omega arith) in
      rw (
        e,
        f,
        m,
        take_at (word_bytes (take i xs)) (drop (4 * i) out) (4 * i) l,
        drop_at (word_bytes (take i xs)) (drop (4 * i) out) (4 * i) l,
        drop-drop 4 (4 * i) out,
        add-one i,
        mul-suc 4 i,
        take-suc xs i 0 h,
        words_append (take i xs) (get_or xs i 0 ∷ []),
        append-nil (digits 8 4 (get_or xs i 0)),
        append_assoc,
      )
