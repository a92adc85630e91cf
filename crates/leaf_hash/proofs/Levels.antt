-- The field of a shape with ordinary leaves by its level, and the widths that go with it. By the definitions, at the three levels there are.
use Prim.Native.Nat.{ℕ}
use mathlib.Core.Path.{◌≡◌, refl, ap₂}
use mathlib.Core.Bool.{true}
use borrow.Author.Tests.{eqb-true}
use Rattle.spec.specs.declared.Shape.{Shape}
use Rattle.spec.specs.Shapes.{ordinary, level, node_bytes, leaf_commitment_bytes, field_width, field_polynomial, level_ok, shape_ok}
use Rattle.planning_laws.proofs.ShapeFacts.{shape-facts, by_level}
use Rattle.field.specs.Fields.{p384, p576, p768}

-- the field has 2 ^ w elements, modulo m; a node has n bytes and a leaf commitment l
pub record Field (s : Shape) (w m n l : ℕ) : Type 0 where
  pub width : field_width s ≡ w
  pub polynomial : field_polynomial s ≡ m
  pub node : node_bytes s ≡ n
  pub commitment : leaf_commitment_bytes s ≡ l

of-level : ℕ → ℕ → Shape → Shape
of-level n kind s = record { tau = s.tau; k = s.k; w = s.w; t = s.t; level = n; kind = kind }

field_of : (s : Shape) (n : ℕ) → ordinary s ≡ true → s.level ≡ n → let o = of-level n 0 s in Field s (field_width o) (field_polynomial o) (node_bytes o) (leaf_commitment_bytes o)
unfolding level node_bytes leaf_commitment_bytes field_width field_polynomial of-level
field_of s n ok e =
    let k = eqb-true s.kind 0 ok in
    record {
      width = ap₂ (λ (n k : ℕ). field_width (of-level n k s)) e k;
      polynomial = ap₂ (λ (n k : ℕ). field_polynomial (of-level n k s)) e k;
      node = ap₂ (λ (n k : ℕ). node_bytes (of-level n k s)) e k;
      commitment = ap₂ (λ (n k : ℕ). leaf_commitment_bytes (of-level n k s)) e k;
    }

pub field-128 : (s : Shape) → ordinary s ≡ true → s.level ≡ 128 → Field s 384 p384 16 48
unfolding level node_bytes leaf_commitment_bytes field_width field_polynomial of-level
field-128 s o e = field_of s 128 o e

pub field-192 : (s : Shape) → ordinary s ≡ true → s.level ≡ 192 → Field s 576 p576 24 72
unfolding level node_bytes leaf_commitment_bytes field_width field_polynomial of-level
field-192 s o e = field_of s 192 o e

-- a level that is neither 128 nor 192 is 256
level-256 : (n : ℕ) → level_ok n ≡ true → (n ≡ 128 → ⊥) → (n ≡ 192 → ⊥) → n ≡ 256
level-256 = by_level (λ (n : ℕ). (n ≡ 128 → ⊥) → (n ≡ 192 → ⊥) → n ≡ 256) (λ a b. absurd (a refl)) (λ a b. absurd (b refl)) (λ a b. refl)

pub field-256 : (s : Shape) → shape_ok s ≡ true → ordinary s ≡ true → (s.level ≡ 128 → ⊥) → (s.level ≡ 192 → ⊥) → Field s 768 p768 32 96
unfolding level node_bytes leaf_commitment_bytes field_width field_polynomial of-level
field-256 s ok o a b = field_of s 256 o (level-256 s.level (shape-facts s ok).level-is a b)
