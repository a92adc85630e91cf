-- The four primitives that section 5 of document 000 is built on, as one record: the definitions that use it do not depend on AES, SHAKE or the field.
use Rattle.std.specs.Prelude.{List, ℕ}
use Rattle.spec.specs.declared.Shape.{Shape}
use Rattle.spec.specs.Bytes.{tabulate}
use Rattle.spec.specs.Shapes.{hash_bytes, key_words, rate, field_width, field_polynomial}
use Rattle.spec.specs.Generator.{generator_byte}
use Rattle.spec.specs.Hashes.{hash0, hash1}
use Rattle.spec.specs.LeafHash.{leaf_hash_byte}

-- each takes the shape, which says the level
pub record Primitives : Type 0 where
  -- key, IV, tweak, p: byte p of the generator's output
  pub prg_byte : Shape → List ℕ → List ℕ → ℕ → ℕ → ℕ
  -- message, n: n bytes of H0
  pub h0 : Shape → List ℕ → ℕ → List ℕ
  -- message: H1
  pub h1 : Shape → List ℕ → List ℕ
  -- hash key, x0, x1, p: byte p of the leaf hash
  pub hash_byte : Shape → List ℕ → List ℕ → List ℕ → ℕ → ℕ

-- those of FAEST
unfoldable pub faest : Primitives
faest =
    record {
      prg_byte = λ s key iv tweak p. generator_byte (key_words s) key iv tweak p;
      h0 = λ s m n. hash0 (rate s) m n;
      h1 = λ s m. hash1 (rate s) m (hash_bytes s);
      hash_byte = λ s u x₀ x₁ p. leaf_hash_byte (field_width s) (field_polynomial s) u x₀ x₁ p;
    }

-- n bytes of the generator: PRG(key, iv, tweak; 8 n)
unfoldable pub prg : Primitives → Shape → List ℕ → List ℕ → ℕ → ℕ → List ℕ
prg P s key iv tweak n = tabulate n (P.prg_byte s key iv tweak)
