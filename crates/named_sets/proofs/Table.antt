-- The table computed beside document 000: each shape and row length is allowed, the signature sizes of table 3.2 come out of it, and the leaf counts by table 5.1, into which w goes.
use Prim.Native.Nat.{ℕ}
use mathlib.Core.Path.{◌≡◌, refl}
use mathlib.Core.Bool.{Bool, true, false, ◌&&◌}
use mathlib.Core.List.{[], ◌∷◌, map}
use lib.ListN.{length}
use Rattle.spec.specs.Shapes.{faest128s, faest128f, level, deeper, depth_of, leaves, shape_ok}
use Rattle.spec.specs.Calls.{row_ok}
use Rattle.named_sets.specs.NamedSets.{Set, sets, shape_of_set, row_of_set, signature_bytes, named_in, named_ok}

twelve : length sets ≡ 12
unfolding sets
twelve = refl

allowed : Set → Bool
allowed x = shape_ok (shape_of_set x) && row_ok (row_of_set x)

all-allowed : map allowed sets ≡ true ∷ true ∷ true ∷ true ∷ true ∷ true ∷ true ∷ true ∷ true ∷ true ∷ true ∷ true ∷ []
unfolding sets shape_of_set row_of_set level deeper depth_of shape_ok row_ok allowed
all-allowed = refl

-- table 3.2, the last column
signature-sizes : map signature_bytes sets ≡ 4506 ∷ 5924 ∷ 11260 ∷ 14948 ∷ 20696 ∷ 26548 ∷ 3906 ∷ 5060 ∷ 9340 ∷ 12380 ∷ 17984 ∷ 23476 ∷ []
unfolding sets row_of_set signature_bytes
signature-sizes = refl

row-lengths : map row_of_set sets ≡ 1680 ∷ 1680 ∷ 3088 ∷ 3088 ∷ 3888 ∷ 3888 ∷ 1360 ∷ 1360 ∷ 2320 ∷ 2320 ∷ 3472 ∷ 3472 ∷ []
unfolding sets row_of_set
row-lengths = refl

-- L, table 5.1: a w that is another set's gives another L
leaf-counts : map (λ x. leaves (shape_of_set x)) sets ≡ 22528 ∷ 3072 ∷ 40960 ∷ 5120 ∷ 61440 ∷ 7168 ∷ 22528 ∷ 3072 ∷ 49152 ∷ 5120 ∷ 61440 ∷ 7168 ∷ []
unfolding sets shape_of_set level deeper leaves
leaf-counts = refl

-- ordinary leaves, then Even-Mansour leaves
kinds : map (λ x. (shape_of_set x).kind) sets ≡ 0 ∷ 0 ∷ 0 ∷ 0 ∷ 0 ∷ 0 ∷ 1 ∷ 1 ∷ 1 ∷ 1 ∷ 1 ∷ 1 ∷ []
unfolding sets shape_of_set
kinds = refl

-- each set is named with its row length, and FAEST-128s with another is not
named : Set → Bool
named x = named_ok (shape_of_set x) (row_of_set x)

all_named : map named sets ≡ true ∷ true ∷ true ∷ true ∷ true ∷ true ∷ true ∷ true ∷ true ∷ true ∷ true ∷ true ∷ []
unfolding sets shape_of_set row_of_set named_in named_ok named
all_named = refl

first_two : (named_ok faest128s 1680 ≡ true) × (named_ok faest128s 1688 ≡ false) × (named_ok faest128f 1680 ≡ true) × (named_ok faest128f 1360 ≡ false)
unfolding sets shape_of_set row_of_set named_in named_ok faest128s faest128f
first_two = (refl, refl, refl, refl)

-- four zeros are no set, with any row length
zeros-not-named : (n : ℕ) → named_ok (record { tau = 0; k = 0; w = 0; t = 0; level = 128; kind = 0 }) n ≡ false
unfolding sets shape_of_set row_of_set named_in named_ok
zeros-not-named n = refl
