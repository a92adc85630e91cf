-- Statements by which a reader recognises FIPS 197, FIPS 202 and document 000's count of nodes in the definitions that are not their text word for word.
-- ../proofs/Recognition.antt proves each.
use Rattle.std.specs.Prelude.{ℕ, zero, suc, ◌+◌, ◌*◌, ◌^◌, ◌≤◌, ◌<◌, ◌≡◌, true, List, [], ◌++◌, length, take}
use Rattle.std.specs.Int.Bits.{bit_xor}
use Rattle.spec.specs.declared.Shape.{Shape}
use Rattle.spec.specs.Bytes.{tabulate}
use Rattle.spec.specs.Polynomials.{product, field_product}
use Rattle.spec.specs.Gf256.{mul, inverse}
use Rattle.spec.specs.Keccak.{keccak_f}
use Rattle.spec.specs.Sponge.{state_byte, absorbed_all, sponge}
use Rattle.spec.specs.Tree.{node_count}
use Rattle.spec.specs.Shapes.{field_width, field_polynomial, leaves, shape_ok, hidden_leaves, planned_count}
use Rattle.planning_laws.specs.Lists.{Leaves, WithoutDuplicates, covered_count}

-- FIPS 197, section 4.4: the inverse of a byte other than 0, times that byte, is 1
abbrev pub SboxInverse : Type 0
SboxInverse = (a : ℕ) → 0 < a → a < 256 → mul a (inverse a) ≡ 1

-- the field of 2^w elements modulo m (FIPS 197, section 4.2; document 000, section 3.2): the product has degree below w, it is the product of the
-- polynomials less a multiple of m, and nothing else is both
pub record FieldProduct (w m : ℕ) : Type 0 where
  pub degree : (n a b : ℕ) → a < 2 ^ w → b < 2 ^ n → field_product w m n a b < 2 ^ w
  pub multiple : (n a b : ℕ) → a < 2 ^ w → b < 2 ^ n → (q : ℕ) × (q < 2 ^ n) × (product n a b ≡ bit_xor (field_product w m n a b) (product n m q))
  pub unique : (n r q r' q' : ℕ) → r < 2 ^ w → r' < 2 ^ w → q < 2 ^ n → q' < 2 ^ n → bit_xor r (product n m q) ≡ bit_xor r' (product n m q') → r ≡ r'

abbrev pub Gf256Product : Type 0
Gf256Product = FieldProduct 8 0x11b

abbrev pub LeafHashProduct : Type 0
LeafHashProduct = (s : Shape) → shape_ok s ≡ true → FieldProduct (field_width s) (field_polynomial s)

-- FIPS 202, Algorithm 8, steps 7 to 10, without the cut: the first r bytes of the state s, then those of the permuted state, and so on for n blocks
unfoldable pub squeezed : ℕ → ℕ → List ℕ → List ℕ
squeezed r zero s = []
squeezed r (suc n) s = tabulate r (state_byte s) ++ squeezed r n (keccak_f s)

-- the output is these blocks, cut to n bytes; any number of blocks that is enough will do
abbrev pub SpongeBlocks : Type 0
SpongeBlocks =
    (r suffix n blocks : ℕ) (m : List ℕ) → 0 < r → n ≤ r * blocks
    → sponge r suffix m n ≡ take n (squeezed r blocks (absorbed_all r suffix m))

-- document 000, figure 5.4, Open, line 16: n_h - 2 τ + 1 is the node count, where the τ hidden leaves are distinct; as sums, for the difference is 0 where
-- every leaf is hidden
abbrev pub CountOfCovered : Type 0
CountOfCovered =
    (L : ℕ) (hidden : List ℕ) → Leaves L hidden → WithoutDuplicates hidden → 0 < length hidden
    → node_count L hidden + 2 * length hidden ≡ covered_count L hidden + 1

-- the same of a shape and a challenge
abbrev pub PlannedCount : Type 0
PlannedCount = (s : Shape) (ch : List ℕ) → shape_ok s ≡ true → planned_count s ch + 2 * s.tau ≡ covered_count (leaves s) (hidden_leaves s ch) + 1
