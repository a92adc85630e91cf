-- Document 02, E13: the twelve sets of document 000, section 3.1, each with the row length that is fixed for it.
use Rattle.std.specs.Prelude.{ℕ, ◌+◌, ◌-◌, ◌*◌, ◌/◌, Bool, false, ◌&&◌, ◌||◌, List, [], ◌∷◌, eqb}
use Rattle.spec.specs.declared.Shape.{Shape}

-- what table 3.2 says of a set: the level, tau, w, T, the blocks of a leaf commitment, the witness length
pub record Set : Type 0 where
  pub lambda : ℕ
  pub tau : ℕ
  pub w : ℕ
  pub t : ℕ
  pub blocks : ℕ
  pub l : ℕ

abbrev pub set : ℕ → ℕ → ℕ → ℕ → ℕ → ℕ → Set
set lambda tau w t blocks l = record { lambda = lambda; tau = tau; w = w; t = t; blocks = blocks; l = l }

-- table 3.2, in its order: FAEST-128s, 128f, 192s, 192f, 256s, 256f, then the same of FAEST-EM
unfoldable pub sets : List Set
sets =
    set 128 11 7 102 3 1280
    ∷ set 128 16 8 110 3 1280
    ∷ set 192 16 12 162 3 2496
    ∷ set 192 24 8 163 3 2496
    ∷ set 256 22 6 245 3 3104
    ∷ set 256 32 8 246 3 3104
    ∷ set 128 11 7 103 2 960
    ∷ set 128 16 8 112 2 960
    ∷ set 192 16 8 162 2 1728
    ∷ set 192 24 8 176 2 1728
    ∷ set 256 22 6 218 2 2688
    ∷ set 256 32 8 234 2 2688
    ∷ []

-- the shape: k is the smaller depth, table 5.1's k - 1; leaves with two blocks are Even-Mansour
unfoldable pub shape_of_set : Set → Shape
shape_of_set x = record { tau = x.tau; k = (x.lambda - x.w) / x.tau; w = x.w; t = x.t; level = x.lambda; kind = 3 - x.blocks }

-- the row length in bits: table 5.1's l-hat, l + 3 lambda + B, with B 16
unfoldable pub row_of_set : Set → ℕ
row_of_set x = x.l + 3 * x.lambda + 16

-- the bytes of a signature, by the formula of section 3.1: table 3.2's last column
unfoldable pub signature_bytes : Set → ℕ
signature_bytes x = (x.tau * row_of_set x + x.t * x.lambda + x.blocks * x.lambda * x.tau + x.lambda + 128 + 32) / 8

-- ---- whether a shape and a row length are those of a set

abbrev pub same_shape : Shape → Shape → Bool
same_shape a b = eqb a.tau b.tau && eqb a.k b.k && eqb a.w b.w && eqb a.t b.t && eqb a.level b.level && eqb a.kind b.kind

unfoldable pub named_in : List Set → Shape → ℕ → Bool
named_in [] s n = false
named_in (x ∷ xs) s n = (same_shape s (shape_of_set x) && eqb n (row_of_set x)) || named_in xs s n

-- the shape as it is given: four zeros are no set
unfoldable pub named_ok : Shape → ℕ → Bool
named_ok s n = named_in sets s n
