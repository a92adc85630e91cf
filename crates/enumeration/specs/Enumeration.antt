-- Document 02, E10: from the bytes of the input to the bytes of the output. What a line says stands in listing_line/specs/Line.antt, what is listed and its text in
-- enumeration_text/specs.
use Rattle.std.specs.Prelude.{ℕ, cond, List, [], ◌∷◌, leb, eqb}
use Rattle.spec.specs.declared.Shape.{Shape}
use Rattle.spec.specs.Shapes.{resolved, shape_ok}
use Rattle.spec.specs.Calls.{first_refusal}
use Rattle.listing_line.specs.Line.{shape_line_ok, shape_of}
use Rattle.listing_text.specs.Text.{refused_text}
use Rattle.enumeration_text.specs.Listed.{open_bits, listed}
use Rattle.enumeration_text.specs.Text.{list_text}

-- the shape that an input gives, four zeros being the default
abbrev pub shape_in : List ℕ → Shape
shape_in input = resolved (shape_of input)

-- 7: any other input than a line with four numbers; 1: not a shape; 12: more than 16 bits of a challenge are no grinding bits
unfoldable pub enumeration_number : List ℕ → ℕ
enumeration_number input = first_refusal ((shape_line_ok input, 7) ∷ (shape_ok (shape_in input), 1) ∷ (leb (open_bits (shape_in input)) 16, 12) ∷ [])

unfoldable pub enumeration : List ℕ → List ℕ
enumeration input =
    let s = shape_in input in
    cond (eqb (enumeration_number input) 0) (list_text s.t (listed s)) (refused_text (enumeration_number input))
