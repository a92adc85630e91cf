-- What ordinary leaves take from the hash keys, and other leaves do not: the keys of all vectors, and the table that the leaf hash of a vector reads, the multiples of its
-- key in the field of the shape.
use Rattle.std.specs.Prelude.{ℕ, ◌*◌, ◌≡◌, true, List, length}
use Rattle.spec.specs.declared.Shape.{Shape}
use Rattle.spec.specs.Bytes.{number}
use Rattle.spec.specs.Shapes.{ordinary, leaf_commitment_bytes, field_width, field_polynomial}
use Rattle.spec.specs.Primitives.{faest}
use Rattle.spec.specs.Leaves.{hash_key}
use Rattle.field.specs.Multiples.{Multiples}

pub record HashKeys (s : Shape) (iv keys : List ℕ) : Type 0 where
  pub size : length keys ≡ leaf_commitment_bytes s * s.tau
  pub made : ordinary s ≡ true → keys ≡ faest.h0 s iv (leaf_commitment_bytes s * s.tau)

unfoldable pub HashMultiples : Shape → List ℕ → ℕ → List (List ℕ) → Type 0
HashMultiples s iv i m = ordinary s ≡ true → Multiples (field_width s) (field_polynomial s) (number 8 (hash_key faest s iv i)) m
