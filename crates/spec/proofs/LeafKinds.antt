-- A leaf of each kind at each level, over any primitives: its seed, its hash key, and what its commitment is made of, with every width as a number. By computing.
use Prim.Native.Nat.{ℕ, ◌+◌, ◌-◌}
use mathlib.Core.Path.{◌≡◌, refl}
use mathlib.Core.List.{List}
use lib.ListN.{take, drop}
use Rattle.spec.specs.declared.Shape.{Shape}
use Rattle.spec.specs.Bytes.{part, tabulate}
use Rattle.spec.specs.Shapes.{level, node_bytes, leaf_commitment_bytes, leaves}
use Rattle.spec.specs.Primitives.{Primitives, prg}
use Rattle.spec.specs.Leaves.{hash_key, stretched, leaf_seed, leaf_commitment}

abbrev pub of : ℕ → ℕ → Shape
of bits kind = record { tau = 3; k = 2; w = 5; t = 4; level = bits; kind = kind }

-- the generator's first n bytes of the leaf `key` of vector i
abbrev leaf_bytes : Primitives → Shape → List ℕ → List ℕ → ℕ → ℕ → List ℕ
leaf_bytes P s iv key i n = prg P s key iv (i + leaves s - 1) n

module _ (P : Primitives) (iv key : List ℕ) where
  -- ---- FAEST.LeafCommit: a seed of n bytes of the 4 n that the generator gives, a hash key and a leaf hash of 3 n

  -- the keys of three vectors are one output of H0
  pub hash-keys :
      (hash_key P (of 128 0) iv 1 ≡ part (P.h0 (of 128 0) iv 144) 48 48)
      × (hash_key P (of 192 0) iv 1 ≡ part (P.h0 (of 192 0) iv 216) 72 72)
      × (hash_key P (of 256 0) iv 2 ≡ part (P.h0 (of 256 0) iv 288) 192 96)
  unfolding level node_bytes leaf_commitment_bytes hash_key
  hash-keys = (refl, refl, refl)

  pub ordinary-seeds : (i : ℕ)
      → (leaf_seed P (of 128 0) iv i key ≡ take 16 (leaf_bytes P (of 128 0) iv key i 64))
      × (leaf_seed P (of 192 0) iv i key ≡ take 24 (leaf_bytes P (of 192 0) iv key i 96))
      × (leaf_seed P (of 256 0) iv i key ≡ take 32 (leaf_bytes P (of 256 0) iv key i 128))
  unfolding level node_bytes leaf_commitment_bytes stretched leaf_seed
  ordinary-seeds i = (refl, refl, refl)

  -- n bytes of the leaf hash, of a seed and what stands behind it
  abbrev Hashed : ℕ → Shape → ℕ → List ℕ → List ℕ
  Hashed n s i rest = tabulate n (P.hash_byte s (hash_key P s iv i) (leaf_seed P s iv i key) rest)

  pub ordinary-commitments : (i : ℕ)
      → (leaf_commitment P (of 128 0) iv i key ≡ Hashed 48 (of 128 0) i (drop 16 (leaf_bytes P (of 128 0) iv key i 64)))
      × (leaf_commitment P (of 192 0) iv i key ≡ Hashed 72 (of 192 0) i (drop 24 (leaf_bytes P (of 192 0) iv key i 96)))
      × (leaf_commitment P (of 256 0) iv i key ≡ Hashed 96 (of 256 0) i (drop 32 (leaf_bytes P (of 256 0) iv key i 128)))
  unfolding level node_bytes leaf_commitment_bytes stretched leaf_commitment
  ordinary-commitments i = (refl, refl, refl)

  -- ---- FAEST-EM.LeafCommit: the key itself, and 2 n bytes of the generator with the same tweak

  pub em-seeds : (i : ℕ) → (leaf_seed P (of 128 1) iv i key ≡ key) × (leaf_seed P (of 192 1) iv i key ≡ key) × (leaf_seed P (of 256 1) iv i key ≡ key)
  unfolding leaf_seed
  em-seeds i = (refl, refl, refl)

  pub em-commitments : (i : ℕ)
      → (leaf_commitment P (of 128 1) iv i key ≡ leaf_bytes P (of 128 1) iv key i 32)
      × (leaf_commitment P (of 192 1) iv i key ≡ leaf_bytes P (of 192 1) iv key i 48)
      × (leaf_commitment P (of 256 1) iv i key ≡ leaf_bytes P (of 256 1) iv key i 64)
  unfolding level node_bytes leaf_commitment_bytes leaf_commitment
  em-commitments i = (refl, refl, refl)
