-- The tests of the record maker's calls, of a resolved shape with rows of n bits, or of b bytes.
use Rattle.std.specs.Prelude.{ℕ, Bool, List, [], ◌∷◌}
use Rattle.spec.specs.declared.Shape.{Shape}
use Rattle.spec.specs.Shapes.{challenge_bytes, hash_bytes, shape_ok, opening_bytes, corrections_bytes}
use Rattle.spec.specs.Calls.{row_ok}
use Rattle.record.specs.Record.{record_bytes}
use Rattle.record_writer.specs.declared.WriteLengths.{WriteLengths}

abbrev pub row_tests : Shape → ℕ → List (Bool × ℕ)
row_tests s n = (shape_ok s, 1) ∷ (row_ok n, 2) ∷ []

abbrev pub write_sizes : Shape → ℕ → WriteLengths → List (ℕ × ℕ)
write_sizes s b x =
    (x.iv, 16)
    ∷ (x.challenge, challenge_bytes s)
    ∷ (x.corrections, corrections_bytes s b)
    ∷ (x.opening, opening_bytes s)
    ∷ (x.commitment, hash_bytes s)
    ∷ (x.bytes, record_bytes s b)
    ∷ []
