-- Document 01, "The listing program": from the bytes of the input to the bytes of the output. What a line says stands in listing_line/specs/Line.antt, the
-- texts of the output in listing_text/specs/Text.antt.
use Rattle.std.specs.Prelude.{ℕ, cond, List, eqb}
use Rattle.spec.specs.declared.Shape.{Shape}
use Rattle.spec.specs.Bytes.{zeros}
use Rattle.spec.specs.Shapes.{resolved, planned, planned_count}
use Rattle.spec.specs.Calls.{plan_lengths, plan_number}
use Rattle.listing_line.specs.Line.{challenge_of, behind, line_ok, shape_of}
use Rattle.listing_text.specs.Text.{refused_text, nodes_text}

-- what plan answers, lent a list of T numbers
unfoldable pub plan_text : Shape → List ℕ → List ℕ
plan_text s ch =
    let number = plan_number s ch (plan_lengths s ch (zeros s.t)) in
    cond (eqb number 0) (nodes_text (planned s ch) (planned_count s ch)) (refused_text number)

-- 7 is tested before 1
unfoldable pub listing : List ℕ → List ℕ
listing input = cond (line_ok input) (plan_text (resolved (shape_of input)) (challenge_of (behind 4 input))) (refused_text 7)
