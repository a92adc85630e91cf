-- Lists that are written from the front: what the first elements are after one store more. By induction on the length.
use mathlib.Core.Path.{◌≡◌, sym, ap, ap₂, ◌∙◌}
use mathlib.Core.List.{List, [], ◌∷◌, ◌++◌, append_assoc}
use Prim.Native.Nat.{ℕ, ◌+◌, ◌<◌}
use native.Mathlib.Numerals.{add-one}
use lib.ListN.{length, take, set}
use lib.Seq.{take-suc-set}
use Rattle.spec.specs.Bytes.{tabulate}
use Rattle.laws.proofs.Lists.{tabulate-same, tabulate-more, tabulate-append}

module _ {A : Type 0} where
  -- after p, the elements f 0, f 1, .., and one more
  pub take-stored : (l : List A) (i : ℕ) (v : A) (p : List A) (n : ℕ) (f : ℕ → A) → i < length l → take i l ≡ p ++ tabulate n f → v ≡ f n
      → take (i + 1) (set l i v) ≡ p ++ tabulate (n + 1) f
  take-stored l i v p n f h e q =
      ap (λ (k : ℕ). take k (set l i v)) (add-one i)
      ∙ take-suc-set l i v h
      ∙ ap₂ (λ (x : List A) (y : A). x ++ (y ∷ [])) e q
      ∙ append_assoc p (tabulate n f) (f n ∷ [])
      ∙ ap (λ (x : List A). p ++ x) (sym (tabulate-more n f) ∙ ap (λ (k : ℕ). tabulate k f) (sym (add-one n)))

  -- n elements more
  pub tabulate-block : (m n : ℕ) (f g : ℕ → A) {p q : List A} → p ≡ tabulate m f → q ≡ p ++ tabulate n g → ((i : ℕ) → i < n → g i ≡ f (m + i)) → q ≡ tabulate (m + n) f
  tabulate-block m n f g e h s =
      h ∙ ap₂ (λ (x y : List A). x ++ y) e (tabulate-same n g (λ i. f (m + i)) s) ∙ sym (tabulate-append m n f)
