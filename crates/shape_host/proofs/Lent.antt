-- The call beneath is lent n numbers, xs: as many as the slice `before` holds where the count slice has four bytes, and else `most`, more than any shape has. So its test of the
-- list is passed exactly where both slices have their lengths. By the cases of the tests.
use Prim.Native.Nat.{ℕ, ◌*◌, ◌<◌}
use mathlib.Core.Path.{◌≡◌, refl, sym, ap, ◌∙◌}
use mathlib.Core.Bool.{Bool, true, false, ◌&&◌, cond, true≢false}
use mathlib.Core.List.{List, [], ◌∷◌}
use lib.Dec.{eqb}
use lib.ListN.{length}
use borrow.Author.Tests.{eqb-true, eq-eqb}
use Rattle.spec.specs.declared.Shape.{Shape}
use Rattle.spec.specs.Shapes.{shape_ok, challenge_bytes}
use Rattle.spec.specs.Calls.{fits, count_given}
use Rattle.spec.specs.HostCalls.{with_count, host_list_lengths}
use Rattle.laws.proofs.Lengths.{fits-sized}

-- what `numbers_in` ensures
abbrev pub Lent : List ℕ → List ℕ → ℕ → ℕ → Type 0
Lent before count n most = (m : ℕ) → m < most → eqb n m ≡ (eqb (length count) 4 && eqb (length before) (4 * m))

-- the count slice tested with the list, or first
reordered : (a b c : Bool) → (b && ((a && c) && true)) ≡ (a && (b && (c && true)))
reordered true b c = refl
reordered false true c = refl
reordered false false c = refl

-- where the count is given, shape and lengths have been tested
both-passed : (a b : Bool) (x : ℕ) → count_given (cond a (cond b x 3) 1) ≡ true → (a ≡ true) × (b ≡ true)
both-passed true true x h = (refl, refl)
both-passed true false x h = absurd (true≢false (sym h))
both-passed false b x h = absurd (true≢false (sym h))

-- a call whose slices have their lengths, with a list of `room` numbers
pub record Right (s : Shape) (before count : List ℕ) (n room : ℕ) : Type 0 where
  pub shape : shape_ok s ≡ true
  pub counted : length count ≡ 4
  pub long : length before ≡ 4 * room
  pub numbers : n ≡ room

-- `later` is the number of the tests after that of the lengths
module _ (s : Shape) (ch before count xs : List ℕ) (n most room later : ℕ) (l : length xs ≡ n) (f : Lent before count n most) (small : shape_ok s ≡ true → room < most) where
  abbrev Lengths : List (ℕ × ℕ)
  Lengths = with_count count (host_list_lengths s room ch before)

  -- what the call beneath compares
  abbrev Beneath : List (ℕ × ℕ)
  Beneath = (length ch, challenge_bytes s) ∷ (length xs, room) ∷ []

  same-fit : room < most → fits Beneath ≡ fits Lengths
  same-fit h = rw (l, f room h) (reordered (eqb (length count) 4) (eqb (length ch) (challenge_bytes s)) (eqb (length before) (4 * room)))

  pub same_number : cond (shape_ok s) (cond (fits Beneath) later 3) 1 ≡ cond (shape_ok s) (cond (fits Lengths) later 3) 1
  same_number = go (shape_ok s) refl
    where
      go : (b : Bool) → shape_ok s ≡ b → cond (shape_ok s) (cond (fits Beneath) later 3) 1 ≡ cond (shape_ok s) (cond (fits Lengths) later 3) 1
      go false e = rw e refl
      go true e = ap (λ (x : Bool). cond (shape_ok s) (cond x later 3) 1) (same-fit (small e))

  pub right : (number : ℕ) → number ≡ cond (shape_ok s) (cond (fits Lengths) later 3) 1 → count_given number ≡ true → Right s before count n room
  right number e h =
      let q = both-passed (shape_ok s) (fits Lengths) later (rw e at h) in
      let z = fits-sized Lengths q.1 in
      record {
        shape = q.0;
        counted = z.0;
        long = z.1.1.0;
        numbers = eqb-true n room (f room (small q.0) ∙ rw (eq-eqb (length count) 4 z.0, eq-eqb (length before) (4 * room) z.1.1.0) refl);
      }
