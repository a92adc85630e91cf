-- Lists that are given by a rule for each index: length, elements, and that a list with the right elements is the rule's. By induction on the length.
use mathlib.Core.Path.{◌≡◌, refl, sym, ap, ap₂, ◌∙◌}
use mathlib.Core.List.{List, [], ◌∷◌, ◌++◌}
use Prim.Native.Nat.{ℕ, zero, suc, ◌+◌, ◌≤◌, ◌<◌}
use native.Mathlib.Nat.{zero-add, suc-add}
use native.Mathlib.Omega.{arith}
use lib.Bits.{bit_xor}
use lib.ListN.{length, get_or, drop, length-drop, length-replicate}
use lib.Seq.{ext_get_or, length-take-le, get_or-take, get_or-drop}
use Rattle.spec.specs.Bytes.{part, tabulate, zeros, xor_bytes}

module _ {A : Type 0} where
  pub length-tabulate : (n : ℕ) (f : ℕ → A) → length (tabulate n f) ≡ n
  unfolding tabulate
  length-tabulate zero f = refl
  length-tabulate (suc n) f = ap suc (length-tabulate n (λ i. f (suc i)))

  pub get_or-tabulate : (n : ℕ) (f : ℕ → A) (i : ℕ) (d : A) → i < n → get_or (tabulate n f) i d ≡ f i
  unfolding tabulate
  get_or-tabulate zero f i d h = absurd (omega arith)
  get_or-tabulate (suc n) f zero d h = refl
  get_or-tabulate (suc n) f (suc i) d h = get_or-tabulate n (λ i. f (suc i)) i d (omega arith)

  pub tabulate-same : (n : ℕ) (f g : ℕ → A) → ((i : ℕ) → i < n → f i ≡ g i) → tabulate n f ≡ tabulate n g
  unfolding tabulate
  tabulate-same zero f g h = refl
  tabulate-same (suc n) f g h =
      ap₂ (λ (x : A) (l : List A). x ∷ l) (h 0 (omega arith))
      (tabulate-same n (λ i. f (suc i)) (λ i. g (suc i)) (λ i l. h (suc i) (omega arith)))

  -- a rule's elements from element 0 on
  pub tabulate-from-0 : (n : ℕ) (f : ℕ → A) → tabulate n (λ i. f (0 + i)) ≡ tabulate n f
  tabulate-from-0 n f = tabulate-same n (λ i. f (0 + i)) f (λ i h. ap f (zero-add i))

  -- a list of n elements is the rule's where each element is
  pub is-tabulate : (n : ℕ) (f : ℕ → A) (d : A) (l : List A) → length l ≡ n → ((i : ℕ) → i < n → get_or l i d ≡ f i) → l ≡ tabulate n f
  is-tabulate n f d l e h =
      ext_get_or d l (tabulate n f) (e ∙ sym (length-tabulate n f))
      (λ i lt. let lt' : i < n = rw e at lt in h i lt' ∙ sym (get_or-tabulate n f i d lt'))

  -- one element more at the end
  pub tabulate-more : (n : ℕ) (f : ℕ → A) → tabulate (suc n) f ≡ tabulate n f ++ (f n ∷ [])
  unfolding tabulate
  tabulate-more zero f = refl
  tabulate-more (suc n) f = ap (λ (l : List A). f 0 ∷ l) (tabulate-more n (λ i. f (suc i)))

  -- m elements of a rule, and n more
  pub tabulate-append : (m n : ℕ) (f : ℕ → A) → tabulate (m + n) f ≡ tabulate m f ++ tabulate n (λ i. f (m + i))
  unfolding tabulate
  tabulate-append zero n f = ap (λ (k : ℕ). tabulate k f) (zero-add n) ∙ sym (tabulate-from-0 n f)
  tabulate-append (suc m) n f =
      ap (λ (k : ℕ). tabulate k f) (suc-add m n)
      ∙ ap (λ (l : List A). f 0 ∷ l)
      (tabulate-append m n (λ i. f (suc i))
      ∙ ap (λ (l : List A). tabulate m (λ i. f (suc i)) ++ l)
      (tabulate-same n (λ i. f (suc (m + i))) (λ i. f (suc m + i)) (λ i h. ap f (sym (suc-add m i)))))

pub length_part : (xs : List ℕ) (at n : ℕ) → at + n ≤ length xs → length (part xs at n) ≡ n
length_part xs at n h = length-take-le n (drop at xs) (simp length-drop (omega arith))

pub get_or-part : (xs : List ℕ) (at n p : ℕ) → p < n → get_or (part xs at n) p 0 ≡ get_or xs (at + p) 0
get_or-part xs at n p h = get_or-take n (drop at xs) p 0 h ∙ get_or-drop at xs p 0

-- a part of a part
pub part-part : (xs : List ℕ) (at n m l : ℕ) → at + n ≤ length xs → m + l ≤ n → part (part xs at n) m l ≡ part xs (at + m) l
part-part xs at n m l k h =
    let whole = length_part xs at n k in
    let long = length_part (part xs at n) m l (omega arith) in
    ext_get_or 0 (part (part xs at n) m l) (part xs (at + m) l) (long ∙ sym (length_part xs (at + m) l (omega arith)))
    (λ i e.
    let lt : i < l = rw long at e in
    get_or-part (part xs at n) m l i lt ∙ get_or-part xs at n (m + i) (omega arith)
    ∙ ap (λ (p : ℕ). get_or xs p 0) (let z : at + (m + i) ≡ at + m + i = omega arith in z) ∙ sym (get_or-part xs (at + m) l i lt))

-- a part of a list that is given by a rule
pub part-tabulate : (n : ℕ) (f : ℕ → ℕ) (at l : ℕ) → at + l ≤ n → part (tabulate n f) at l ≡ tabulate l (λ p. f (at + p))
part-tabulate n f at l h =
    is-tabulate l (λ p. f (at + p)) 0 (part (tabulate n f) at l) (length_part (tabulate n f) at l (simp length-tabulate (omega arith)))
    (λ p k. get_or-part (tabulate n f) at l p k ∙ get_or-tabulate n f (at + p) 0 (omega arith))

pub length-zeros : (n : ℕ) → length (zeros n) ≡ n
unfolding zeros
length-zeros n = length-replicate n 0

pub tabulate-xor : (n : ℕ) (f g : ℕ → ℕ) → tabulate n (λ i. bit_xor (f i) (g i)) ≡ xor_bytes (tabulate n f) (tabulate n g)
unfolding tabulate xor_bytes
tabulate-xor zero f g = refl
tabulate-xor (suc n) f g = ap (λ (l : List ℕ). bit_xor (f 0) (g 0) ∷ l) (tabulate-xor n (λ i. f (suc i)) (λ i. g (suc i)))
