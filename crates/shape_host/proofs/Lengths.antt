-- The contract of the exported lengths, by the tests that were passed: one law for each way out. t is the resolved shape.
use Prim.Native.Nat.{ℕ, ◌*◌, ◌/◌}
use mathlib.Core.Path.{◌≡◌, refl, sym, ◌∙◌}
use mathlib.Core.Bool.{true, false}
use mathlib.Core.List.{List, [], ◌∷◌, ◌++◌, append-nil}
use native.Mathlib.Omega.{arith}
use lib.ListN.{length, take, drop, drop_of_length-le}
use borrow.Author.Tests.{eq-eqb, ne_eqb}
use Rattle.spec.specs.declared.Shape.{Shape}
use Rattle.spec.specs.Shapes.{resolved, leaves, node_bytes, hash_bytes, shape_ok, tree_bytes, leaf_commitments_bytes, opening_bytes, matrix_bytes, corrections_bytes}
use Rattle.spec.specs.Calls.{row_ok, commit_number}
use Rattle.spec.specs.HostCalls.{word_bytes}
use Rattle.shape_host.specs.LengthCalls.{length_words, HostLengths}

-- the numbers, each by the call that gives it
pub words : (s : Shape) (b : ℕ) {l n h t c m d o : ℕ} → l ≡ leaves s → n ≡ node_bytes s → h ≡ hash_bytes s → t ≡ tree_bytes s → c ≡ leaf_commitments_bytes s → m ≡ matrix_bytes s b
    → d ≡ corrections_bytes s b → o ≡ opening_bytes s → l ∷ n ∷ h ∷ 4 * s.tau ∷ 4 * s.t ∷ t ∷ c ∷ b ∷ m ∷ d ∷ o ∷ [] ≡ length_words s b
words s b e0 e1 e2 e3 e4 e5 e6 e7 = rw (e0, e1, e2, e3, e4, e5, e6, e7) refl

module _ (s t : Shape) (e : t ≡ resolved s) (n : ℕ) (before : List ℕ) where
  pub no-shape : shape_ok t ≡ false → HostLengths s n before before 1
  unfolding commit_number
  no-shape a = record { number = sym (rw (rw e at a) refl); lengths = refl }

  pub no_row : shape_ok t ≡ true → row_ok n ≡ false → HostLengths s n before before 2
  unfolding commit_number
  no_row a b = record { number = sym (rw (rw e at a, b) refl); lengths = refl }

  pub other-slice : shape_ok t ≡ true → row_ok n ≡ true → (length before ≡ 44 → ⊥) → HostLengths s n before before 3
  unfolding commit_number
  other-slice a b d = record { number = sym (rw (rw e at a, b, ne_eqb (length before) 44 d) refl); lengths = refl }

  -- xs are the numbers, and the slice has just their room
  pub given : shape_ok t ≡ true → row_ok n ≡ true → length before ≡ 44 → (xs after : List ℕ) → xs ≡ length_words t (n / 8)
      → after ≡ word_bytes (take 11 xs) ++ drop 44 before → HostLengths s n before after 0
  unfolding commit_number
  given a b d xs after w p =
      record {
        number = sym (rw (rw e at a, b, eq-eqb (length before) 44 d) refl);
        lengths = p ∙ rw (w, drop_of_length-le before {i = 44} (omega arith), append-nil, e) refl;
      }
