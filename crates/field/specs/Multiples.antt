-- The table of multiples that a product by windows of four terms reads, in the field of 2 ^ w elements modulo m (document 000, section 3.2).
use Rattle.std.specs.Prelude.{◌≡◌, List, [], ℕ, ◌^◌, ◌<◌, get_or}
use Rattle.spec.specs.Bytes.{number}
use Rattle.spec.specs.Polynomials.{field_product}

-- entry d of t, in limbs, is x times the polynomial d of four terms
pub record Multiples (w m x : ℕ) (t : List (List ℕ)) : Type 0 where
  pub degree : x < 2 ^ w
  pub entry : (d : ℕ) → d < 16 → number 64 (get_or t d []) ≡ field_product w m 4 x d
