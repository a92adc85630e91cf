-- What is longer than any line is refused, so the first 64 bytes of an input tell what it gives: a line has at most 24. And what a number of 0 says of the shape. By cases
-- on the tests.
use Prim.Native.Nat.{ℕ, ◌-◌, ◌≤◌, ◌<◌}
use mathlib.Core.Path.{◌≡◌, refl, sym, ◌∙◌}
use mathlib.Core.Bool.{Bool, true, false}
use mathlib.Core.List.{List, [], ◌∷◌}
use native.Mathlib.Omega.{arith}
use native.Mathlib.Decide.{dec_lt}
use lib.Dec.{leb}
use lib.ListN.{length, take}
use lib.Seq.{take_all, length-take-le}
use borrow.Author.Tests.{leb-true}
use Rattle.spec.specs.declared.Shape.{Shape}
use Rattle.spec.specs.Shapes.{level, shape_ok}
use Rattle.spec.specs.Calls.{first_refusal}
use Rattle.laws.proofs.Conjunctions.{refuted}
use Rattle.planning_laws.proofs.ShapeFacts.{shape-facts, by_level}
use Rattle.listing_line.specs.Line.{shape_line_ok}
use Rattle.listing_line.proofs.Lines.{shape-line-length}
use Rattle.enumeration_text.specs.Listed.{open_bits}
use Rattle.enumeration.specs.declared.Reading.{Reading}
use Rattle.enumeration.specs.Enumeration.{shape_in, enumeration_number}
use Rattle.enumeration.specs.Pieces.{Reads, Readable}

pub open_is : (s : Shape) → open_bits s ≡ s.level - s.w
unfolding open_bits level
open_is s = refl

-- with at most 16 open bits, and grinding bits of at most 127, the level is 128
pub level-128 : (s : Shape) → shape_ok s ≡ true → open_bits s ≤ 16 → level s ≡ 128
unfolding level
level-128 s ok h =
    let f = shape-facts s ok in
    let w = f.w-max in
    let o = open_is s in
    by_level (λ n. n ≤ 143 → n ≡ 128) (λ l. refl) (λ l. absurd (omega arith)) (λ l. absurd (omega arith)) s.level f.level-is (omega arith)

-- ---- the number

-- the tests of a shape
abbrev pub shape_number : Shape → ℕ
shape_number s = first_refusal ((shape_ok s, 1) ∷ (leb (open_bits s) 16, 12) ∷ [])

pub number-of-shape : (s : Shape) → (shape_number s ≤ 12) × (shape_number s ≡ 0 → (shape_ok s ≡ true) × (open_bits s ≤ 16))
number-of-shape s = go (shape_ok s) (leb (open_bits s) 16) refl
  where
    go : (a b : Bool) → leb (open_bits s) 16 ≡ b
        → (first_refusal ((a, 1) ∷ (b, 12) ∷ []) ≤ 12) × (first_refusal ((a, 1) ∷ (b, 12) ∷ []) ≡ 0 → (a ≡ true) × (open_bits s ≤ 16))
    go false b e = (omega arith, λ z. absurd (omega arith))
    go true false e = (omega arith, λ z. absurd (omega arith))
    go true true e = (omega arith, λ z. (refl, leb-true _ _ e))

pub unreadable : (input : List ℕ) → shape_line_ok input ≡ false → enumeration_number input ≡ 7
unfolding enumeration_number
unreadable input e = rw e refl

pub read_number : (input : List ℕ) → shape_line_ok input ≡ true → enumeration_number input ≡ shape_number (shape_in input)
unfolding enumeration_number
read_number input e = rw e refl

pub readable : (r : Reading) → r.number ≡ shape_number r.shape → Readable r
readable r e =
    let q = number-of-shape r.shape in
    record { small = rw e q.0; shape = λ z. q.1 (sym e ∙ z) }

-- ---- the first 64 bytes

too_long : (input : List ℕ) → 24 < length input → enumeration_number input ≡ 7
too_long input h = unreadable input (sym (refuted (shape_line_ok input) (λ e. omega (arith, shape-line-length input e))))

-- an input and its first 64 bytes are the same input, or both are too long
pub first-64 : (input : List ℕ) (r : Reading) → Reads (take 64 input) r → Reads input r
first-64 input r q = go (dec_lt 64 (length input))
  where
    go : Dec (64 < length input) → Reads input r
    go (no h) = rw (take_all 64 input (let l : length input ≤ 64 = omega arith in l)) at q
    go (yes h) =
        let a = too_long (take 64 input) (omega (arith, length-take-le 64 input (omega arith))) in
        let b = too_long input (omega arith) in
        let n = q.number ∙ a in
        record { number = n ∙ sym b; shape = λ z. absurd (omega arith) }
