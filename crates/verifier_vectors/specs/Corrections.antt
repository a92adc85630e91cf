-- The matrix of the checking half while the corrections are added to it, vector after vector.
use Rattle.std.specs.Prelude.{ℕ, ◌*◌, ◌≡◌, List, take, drop}
use Rattle.spec.specs.declared.Shape.{Shape}
use Rattle.spec.specs.Bytes.{concat}
use Rattle.spec.specs.Shapes.{depth_of, first_bit}
use Rattle.spec.specs.Rows.{matrix_of}
use Rattle.spec.specs.Verifier.{verifier_column}
use Rattle.verifier_vector.specs.Vector.{uncorrected}

-- the first n vectors have theirs, and behind them the matrix is as it was
pub record Corrected (s : Shape) (b : ℕ) (row : ℕ → ℕ → ℕ → ℕ) (ch corrections : List ℕ) (n : ℕ) (q : List ℕ) : Type 0 where
  pub front : take (b * first_bit s n) q ≡ concat n (λ i. concat (depth_of s i) (verifier_column s b row ch corrections i))
  pub rest : drop (b * first_bit s n) q ≡ drop (b * first_bit s n) (matrix_of s b (uncorrected s b row ch))
