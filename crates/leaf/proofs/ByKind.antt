-- The seed and the commitment of a leaf, where its kind is known. By the definitions.
use Prim.Native.Nat.{ℕ, ◌+◌, ◌-◌}
use mathlib.Core.Path.{◌≡◌, ap}
use mathlib.Core.Bool.{Bool, true, false, cond}
use mathlib.Core.List.{List}
use lib.ListN.{take, drop}
use Rattle.spec.specs.declared.Shape.{Shape}
use Rattle.spec.specs.Bytes.{tabulate}
use Rattle.spec.specs.Shapes.{ordinary, node_bytes, leaf_commitment_bytes, leaves}
use Rattle.spec.specs.Primitives.{Primitives, prg}
use Rattle.spec.specs.Leaves.{hash_key, stretched, leaf_seed, leaf_commitment}

module _ (P : Primitives) (s : Shape) (iv : List ℕ) (i : ℕ) (key : List ℕ) where
  pub ordinary-seed : ordinary s ≡ true → leaf_seed P s iv i key ≡ take (node_bytes s) (stretched P s iv i key)
  unfolding leaf_seed
  ordinary-seed o = ap (λ (b : Bool). cond b (take (node_bytes s) (stretched P s iv i key)) key) o

  abbrev hashed : List ℕ
  hashed = tabulate (leaf_commitment_bytes s) (P.hash_byte s (hash_key P s iv i) (leaf_seed P s iv i key) (drop (node_bytes s) (stretched P s iv i key)))

  abbrev made : List ℕ
  made = prg P s key iv (i + leaves s - 1) (leaf_commitment_bytes s)

  pub ordinary-commitment : ordinary s ≡ true → leaf_commitment P s iv i key ≡ hashed
  unfolding leaf_commitment
  ordinary-commitment o = ap (λ (b : Bool). cond b hashed made) o

  pub em-seed : ordinary s ≡ false → leaf_seed P s iv i key ≡ key
  unfolding leaf_seed
  em-seed o = ap (λ (b : Bool). cond b (take (node_bytes s) (stretched P s iv i key)) key) o

  pub em-commitment : ordinary s ≡ false → leaf_commitment P s iv i key ≡ made
  unfolding leaf_commitment
  em-commitment o = ap (λ (b : Bool). cond b hashed made) o
