-- The pieces joined are the whole output: pieces of 1,024 lines follow one another, the last of them ends with the last line listed, and behind it stands the last line. By
-- induction on the pieces.
use Prim.Native.Nat.{ℕ, zero, suc, ◌+◌, ◌-◌, ◌*◌, ◌/◌, ◌^◌, ◌<◌, min}
use mathlib.Core.Path.{◌≡◌, refl, sym, ap, ap₂, ◌∙◌}
use mathlib.Core.List.{List, ◌++◌}
use native.Mathlib.Omega.{arith}
use native.Mathlib.Decide.{ℕ_discrete}
use native.Mathlib.Numerals.{add-one}
use borrow.Author.Tests.{lt-ltb, le-ltb, ne_eqb}
use Rattle.spec.specs.declared.Shape.{Shape}
use Rattle.spec.specs.Bytes.{concat}
use Rattle.listing_text.specs.Text.{refused_text}
use Rattle.laws.proofs.Concat.{concat-same, concat-append}
use Rattle.enumeration_text.specs.Listed.{open_bits, listed_at, listed}
use Rattle.enumeration_text.specs.Text.{line_text, list_text}
use Rattle.enumeration_text.proofs.Lines.{lines-text}
use Rattle.enumeration.specs.declared.Reading.{Reading}
use Rattle.enumeration.specs.Enumeration.{shape_in, enumeration_number, enumeration}
use Rattle.enumeration.specs.Pieces.{line_pieces, list_piece, piece_count, piece_text, Whole}

-- ---- pieces of w texts each, of n texts in all

module _ (f : ℕ → List ℕ) (n : ℕ) where
  abbrev part : ℕ → List ℕ
  part i = concat (min 1024 (n - 1024 * i)) (λ x. f (1024 * i + x))

  -- the first i pieces
  parts : (i : ℕ) → concat i part ≡ concat (min (1024 * i) n) f
  unfolding concat
  parts zero = ap (λ (m : ℕ). concat m f) (let z : 0 ≡ min (1024 * 0) n = omega arith in z)
  parts (suc i) =
      let ih = parts i in
      ap (λ (l : List ℕ). l ++ part i) ih ∙ next (min (1024 * i) n) (min 1024 (n - 1024 * i)) (min (1024 * suc i) n) (1024 * i) (omega arith) (ends (1024 * i) (omega arith))
    where
      -- a piece begins where those before it end, or is empty
      ends : (a : ℕ) → a ≡ 1024 * i → (x : ℕ) → x < min 1024 (n - 1024 * i) → min (1024 * i) n ≡ a
      ends a e x h = omega arith

      next : (m k t a : ℕ) → m + k ≡ t → ((x : ℕ) → x < k → m ≡ a) → concat m f ++ concat k (λ x. f (a + x)) ≡ concat t f
      next m k t a e h =
          ap (λ (l : List ℕ). concat m f ++ l) (concat-same (λ x. f (a + x)) (λ x. f (m + x)) k (λ x l. ap (λ (y : ℕ). f (y + x)) (sym (h x l))))
          ∙ sym (concat-append f m k)
          ∙ ap (λ (y : ℕ). concat y f) e

  -- all of them
  all-parts : concat ((n + 1023) / 1024) part ≡ concat n f
  all-parts = parts ((n + 1023) / 1024) ∙ ap (λ (m : ℕ). concat m f) (let z : min (1024 * ((n + 1023) / 1024)) n ≡ n = omega arith in z)

-- ---- the output of a shape

whole-list : (s : Shape) → concat (line_pieces s + 1) (list_piece s) ≡ list_text s.t (listed s)
unfolding concat list_text listed
whole-list s =
    let n = 2 ^ open_bits s in
    ap (λ (m : ℕ). concat m (list_piece s)) (add-one (line_pieces s))
    ∙ ap₂ (λ (a b : List ℕ). a ++ b)
    (concat-same (list_piece s) (part (λ x. line_text (listed_at s x)) n) (line_pieces s) (λ i h. rw (lt-ltb i (line_pieces s) h) refl)
    ∙ all-parts (λ x. line_text (listed_at s x)) n
    ∙ sym (lines-text n (listed_at s)))
    (rw (le-ltb (line_pieces s) (line_pieces s) (omega arith)) refl)

refused-piece : (r : Reading) → (r.number ≡ 0 → ⊥) → piece_text r 0 ≡ refused_text r.number
unfolding piece_text
refused-piece r e = rw (ne_eqb r.number 0 e) refl

pub whole : Whole
unfolding piece_count piece_text enumeration concat
whole input r q = go (ℕ_discrete r.number 0)
  where
    go : Dec (r.number ≡ 0) → concat (piece_count r) (piece_text r) ≡ enumeration input
    go (yes e) =
        let n : enumeration_number input ≡ 0 = sym q.number ∙ e in
        rw (n, e, q.shape e) (whole-list (shape_in input))
    go (no e) = rw (← q.number, ne_eqb r.number 0 e) (refused-piece r e)
