-- The parts that the lists of tests in spec's Calls are made of, with their numbers, and an answer that gives a number.
use Rattle.std.specs.Prelude.{ℕ, ◌/◌, ◌≡◌, Bool, List, [], ◌∷◌}
use Rattle.spec.specs.declared.Shape.{Shape}
use Rattle.spec.specs.declared.Stretch.{Stretch}
use Rattle.spec.specs.declared.Answer.{Answer}
use Rattle.spec.specs.Shapes.{shape_ok, grinding_ok}
use Rattle.spec.specs.Verifier.{slots_ok}
use Rattle.spec.specs.Calls.{first_refusal, fits, count_with, row_ok, stretch_ok, nodes_ok}

-- commit and reconstruct begin with these tests of numbers alone; n is the row length in bits
abbrev pub front_tests : Shape → ℕ → Stretch → List (Bool × ℕ)
front_tests s n z = (shape_ok s, 1) ∷ (row_ok n, 2) ∷ (stretch_ok (n / 8) z, 8) ∷ []

unfoldable pub front_number : Shape → ℕ → Stretch → ℕ
front_number s n z = first_refusal (front_tests s n z)

-- decode, plan and open begin with these
abbrev pub size_tests : Shape → List (ℕ × ℕ) → List (Bool × ℕ)
size_tests s lengths = (shape_ok s, 1) ∷ (fits lengths, 3) ∷ []

unfoldable pub size_number : Shape → List (ℕ × ℕ) → ℕ
size_number s lengths = first_refusal (size_tests s lengths)

-- the tests of a challenge that has its length
abbrev pub challenge_tests : Shape → List ℕ → List (Bool × ℕ)
challenge_tests s ch = (grinding_ok s ch, 4) ∷ (nodes_ok s ch, 5) ∷ []

unfoldable pub challenge_number : Shape → List ℕ → ℕ
challenge_number s ch = first_refusal (challenge_tests s ch)

-- the same with an opening that has its length
abbrev pub opening_tests : Shape → List ℕ → List ℕ → List (Bool × ℕ)
opening_tests s ch opening = (grinding_ok s ch, 4) ∷ (nodes_ok s ch, 5) ∷ (slots_ok s ch opening, 6) ∷ []

unfoldable pub opening_number : Shape → List ℕ → List ℕ → ℕ
opening_number s ch opening = first_refusal (opening_tests s ch opening)

-- the answer has the number, and the count where one is given with it
abbrev pub Answered : ℕ → ℕ → Answer → Type 0
Answered number count r = (r.number ≡ number) × (r.count ≡ count_with r.number count)
