-- Lists of numbers as four bytes each, and the count slice of an exported call. By induction on the list, and by the cases of the tests.
use Prim.Native.Nat.{ℕ, zero, suc, ◌+◌, ◌*◌, ◌<◌}
use mathlib.Core.Path.{◌≡◌, refl, sym, ap, ◌∙◌}
use mathlib.Core.Bool.{Bool, true, false, cond}
use mathlib.Core.List.{List, [], ◌∷◌, ◌++◌, append_assoc}
use native.Mathlib.Omega.{arith}
use lib.Dec.{eqb}
use lib.ListN.{length, get_or, drop, length-append}
use lib.Seq.{take_at, drop_at, drop-cons, drop-drop, drop-nil}
use borrow.Author.Tests.{eqb-true, eq-eqb, ne_eqb}
use Rattle.spec.specs.Bytes.{part, tabulate, digits}
use Rattle.spec.specs.Calls.{count_given, count_with}
use Rattle.spec.specs.HostCalls.{word_bytes, count_slice}
use Rattle.laws.proofs.Conjunctions.{contrary}

-- two comparisons that hold together
pub same_test : (a b c d : ℕ) → (a ≡ b → c ≡ d) → (c ≡ d → a ≡ b) → eqb a b ≡ eqb c d
same_test a b c d f g = go (eqb a b) refl
  where
    go : (t : Bool) → eqb a b ≡ t → eqb a b ≡ eqb c d
    go true e = e ∙ sym (eq-eqb c d (f (eqb-true a b e)))
    go false e = e ∙ sym (ne_eqb c d (λ h. contrary (eq-eqb a b (g h)) e))

pub word-length : (x : ℕ) → length (digits 8 4 x) ≡ 4
unfolding tabulate digits
word-length x = refl

pub words-length : (xs : List ℕ) → length (word_bytes xs) ≡ 4 * length xs
unfolding word_bytes
words-length [] = refl
words-length (x ∷ xs) = length-append (digits 8 4 x) (word_bytes xs) ∙ omega (arith, word-length x, words-length xs)

pub words_append : (xs ys : List ℕ) → word_bytes (xs ++ ys) ≡ word_bytes xs ++ word_bytes ys
unfolding word_bytes
words_append [] ys = refl
words_append (x ∷ xs) ys = ap (λ (l : List ℕ). digits 8 4 x ++ l) (words_append xs ys) ∙ sym (append_assoc (digits 8 4 x) (word_bytes xs) (word_bytes ys))

pub words-drop : (n : ℕ) (xs : List ℕ) → word_bytes (drop n xs) ≡ drop (4 * n) (word_bytes xs)
unfolding word_bytes
words-drop zero xs = refl
words-drop (suc n) [] = sym (drop-nil (4 * suc n))
words-drop (suc n) (x ∷ xs) =
    let e : 4 * suc n ≡ 4 + 4 * n = omega arith in
    words-drop n xs
    ∙ ap (drop (4 * n)) (sym (drop_at (digits 8 4 x) (word_bytes xs) 4 (word-length x)))
    ∙ drop-drop (4 * n) 4 (digits 8 4 x ++ word_bytes xs)
    ∙ ap (λ (m : ℕ). drop m (digits 8 4 x ++ word_bytes xs)) (sym e)

pub words-part : (xs : List ℕ) (i : ℕ) → i < length xs → part (word_bytes xs) (4 * i) 4 ≡ digits 8 4 (get_or xs i 0)
unfolding word_bytes
words-part xs i h =
    rw (← words-drop i xs, drop-cons xs i 0 h) (take_at (digits 8 4 (get_or xs i 0)) (word_bytes (drop (suc i) xs)) 4 (word-length (get_or xs i 0)))

-- the count of the call beneath is the planned one wherever it is written
pub count-slice : (number n : ℕ) (before : List ℕ) → count_slice number (count_with number n) before ≡ count_slice number n before
unfolding count_slice count_with
count-slice number n before = go (count_given number)
  where
    go : (b : Bool) → cond b (digits 8 4 (cond b n 0)) before ≡ cond b (digits 8 4 n) before
    go true = refl
    go false = refl
