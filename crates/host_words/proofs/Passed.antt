-- What an exported call gives, from what the call beneath gives, which is lent the slice xs where the count slice has four bytes, and else nothing of it: then it refuses
-- with a number that writes nothing. By these two cases.
use Prim.Native.Nat.{ℕ}
use mathlib.Core.Path.{◌≡◌, refl, ap, ◌∙◌}
use mathlib.Core.Bool.{Bool, true, false, cond}
use mathlib.Core.List.{List, []}
use lib.Dec.{eqb}
use lib.ListN.{length, take}
use lib.Seq.{take-length}
use borrow.Author.Tests.{eqb-true}
use Rattle.spec.specs.Calls.{count_given, written, count_with}
use Rattle.spec.specs.HostCalls.{count_slice}
use Rattle.laws.proofs.Conjunctions.{contrary}
use Rattle.laws.proofs.Words.{count-slice}

-- a number that writes neither buffers nor count
abbrev pub Silent : ℕ → Type 0
Silent n = (eqb n 0 ≡ false) × (count_given n ≡ false)

-- a refusal, or a later one
pub silent : (b : Bool) (m n : ℕ) → Silent m → Silent n → Silent (cond b m n)
silent true m n p q = p
silent false m n p q = q

-- n is the number of the call beneath, which is `beneath ys` where it is lent ys; `host` is the exported call's
module _ (xs count : List ℕ) (m : ℕ) (e : m ≡ cond (eqb (length count) 4) (length xs) 0) (beneath : List ℕ → ℕ) (host : ℕ)
    (full : eqb (length count) 4 ≡ true → beneath xs ≡ host) (none : eqb (length count) 4 ≡ false → (beneath [] ≡ host) × Silent host)
    (n : ℕ) (o : n ≡ beneath (take m xs)) where
  cases : {A : Type 0} → (eqb (length count) 4 ≡ true → take m xs ≡ xs → A) → (eqb (length count) 4 ≡ false → take m xs ≡ [] → A) → A
  cases {A} f g = go (eqb (length count) 4) refl
    where
      go : (b : Bool) → eqb (length count) 4 ≡ b → A
      go true t = f t (rw (e, t) (take-length xs))
      go false t = g t (rw (e, t) refl)

  pub number : n ≡ host
  number = cases (λ t z. o ∙ ap beneath z ∙ full t) (λ t z. o ∙ ap beneath z ∙ (none t).0)

  wordless : eqb (length count) 4 ≡ false → Silent n
  wordless t = rw number (none t).1

  pub sized : count_given n ≡ true → length count ≡ 4
  sized h = cases (λ t z. eqb-true (length count) 4 t) (λ t z. contrary h (wordless t).1)

  pub bytes : {A : Type 0} (new : List ℕ → A) (before after : A) → after ≡ written n (new (take m xs)) before → after ≡ written n (new xs) before
  bytes new before after w =
      cases (λ t z. w ∙ ap (λ (ys : List ℕ). written n (new ys) before) z)
      (λ t z. rw (wordless t).0 (rw (wordless t).0 at w))

  -- `plan ys` is the count that is planned with ys
  pub counted : (plan : List ℕ → ℕ) (k : ℕ) (count' : List ℕ) → k ≡ count_with n (plan (take m xs)) → count' ≡ count_slice n k count → count' ≡ count_slice n (plan xs) count
  unfolding count_slice
  counted plan k count' p d =
      cases (λ t z. rw (p ∙ ap (λ (ys : List ℕ). count_with n (plan ys)) z) at d ∙ count-slice n (plan xs) count)
      (λ t z. rw (wordless t).1 (rw (wordless t).1 at d))
