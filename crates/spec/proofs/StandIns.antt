-- Simple sums in place of the primitives, so that a prover can compute a whole example over them; reference/worked_example.py has the same. 65521 is prime, so
-- every bit of a tweak changes the generator's first two bytes.
use Prim.Native.Nat.{ℕ, ◌+◌, ◌*◌, ◌/◌, ◌%◌}
use mathlib.Core.List.{List, [], ◌∷◌}
use lib.Bits.{bit_xor}
use lib.ListN.{get_or}
use Rattle.spec.specs.Bytes.{tabulate}
use Rattle.spec.specs.Primitives.{Primitives}

-- the sum of the elements, each times its place counted from i
abbrev pub weight_from : ℕ → List ℕ → ℕ
weight_from i [] = 0
weight_from i (x ∷ xs) = i * x + weight_from (i + 1) xs

abbrev pub weight : List ℕ → ℕ
weight xs = weight_from 1 xs

-- at a level whose nodes have n bytes
abbrev pub stand_in_of : ℕ → Primitives
stand_in_of n =
    record {
      prg_byte = λ s key iv tweak p. let a = (weight key + 7 * tweak + weight iv) % 65521 in (a + 13 * p + a / 256 * p * p) % 256;
      h0 = λ s m bytes. tabulate bytes (λ p. (weight m + 3 * p) % 256);
      h1 = λ s m. let a = weight m in tabulate (2 * n) (λ p. (a + a / 256 * (p + 1)) % 256);
      hash_byte = λ s u x₀ x₁ p. bit_xor (get_or x₁ p 0) ((get_or u p 0 + get_or x₀ (p % n) 0) % 256);
    }

abbrev pub stand_in : Primitives
stand_in = stand_in_of 16
