-- A list that is filled from its front by a rule, element by element or part by part, as a loop does it. By the laws of lists.
use mathlib.Core.Path.{◌≡◌, refl, sym, ap, ◌∙◌}
use mathlib.Core.List.{List, ◌∷◌, ◌++◌, append-nil, append_assoc}
use Prim.Native.Nat.{ℕ, zero, suc, ◌+◌, ◌-◌, ◌≤◌, ◌<◌}
use native.Mathlib.Numerals.{add-one}
use native.Mathlib.Omega.{arith}
use lib.ListN.{length, get_or, set, take, drop, length-append, length-drop, drop_of_length-le}
use lib.Seq.{set_at, take_at, drop_at, drop-cons, drop-drop, get_or-drop, append_snoc}
use Rattle.spec.specs.Bytes.{tabulate}
use Rattle.laws.proofs.Lists.{length-tabulate, is-tabulate, tabulate-more, tabulate-append}

-- the first n of m elements of a rule
pub take-tabulate : (n m : ℕ) (f : ℕ → ℕ) → n ≤ m → take n (tabulate m f) ≡ tabulate n f
unfolding tabulate
take-tabulate zero m f h = refl
take-tabulate (suc n) zero f h = absurd (omega arith)
take-tabulate (suc n) (suc m) f h = ap (λ (l : List ℕ). f 0 ∷ l) (take-tabulate n m (λ i. f (suc i)) (omega arith))

-- the list s with the rule's elements in the place of its first n
abbrev pub filled : ℕ → (ℕ → ℕ) → List ℕ → List ℕ
filled n f s = tabulate n f ++ drop n s

module _ (f : ℕ → ℕ) (s : List ℕ) where
  pub filled_none : filled 0 f s ≡ s
  unfolding tabulate
  filled_none = refl

  pub length-filled : (n : ℕ) → n ≤ length s → length (filled n f s) ≡ length s
  length-filled n h = rw (length-append, length-tabulate, length-drop) (omega arith)

  -- the next element is stored
  pub filled-set : (n : ℕ) → n < length s → set (filled n f s) n (f n) ≡ filled (n + 1) f s
  filled-set n h =
      rw (
        drop-cons s n 0 h,
        set_at (tabulate n f) (get_or s n 0) (drop (suc n) s) (f n) n (length-tabulate n f),
        add-one n,
        tabulate-more n f,
        append_snoc,
      )

  -- the next m elements are put in, as a part that comes back
  pub filled_put : (n m : ℕ) (ys : List ℕ) → ys ≡ tabulate m (λ i. f (n + i))
      → take n (filled n f s) ++ (ys ++ drop m (drop n (filled n f s))) ≡ filled (n + m) f s
  filled_put n m ys e =
      rw (
        take_at (tabulate n f) (drop n s) n (length-tabulate n f),
        drop_at (tabulate n f) (drop n s) n (length-tabulate n f),
        drop-drop m n s,
        e,
        tabulate-append n m f,
        append_assoc,
      )

  -- all is filled
  pub filled-end : (n : ℕ) → length s ≤ n → filled n f s ≡ tabulate n f
  filled-end n h = rw (drop_of_length-le s h, append-nil)

  -- the rest is the rule's already
  pub filled-rest : (n : ℕ) → n ≤ length s → ((k : ℕ) → n ≤ k → k < length s → get_or s k 0 ≡ f k) → filled n f s ≡ tabulate (length s) f
  filled-rest n h rest =
      let all : n + (length s - n) ≡ length s = omega arith in
      ap (λ (l : List ℕ). tabulate n f ++ l)
      (is-tabulate (length s - n) (λ i. f (n + i)) 0 (drop n s) (length-drop n s) (λ i lt. get_or-drop n s i 0 ∙ rest (n + i) (omega arith) (omega arith)))
      ∙ sym (tabulate-append n (length s - n) f)
      ∙ ap (λ (m : ℕ). tabulate m f) all
