-- Fronts of records, computed: which are named, and where 13 stands among the other numbers.
use Prim.Native.Nat.{ℕ}
use mathlib.Core.Path.{◌≡◌, refl}
use mathlib.Core.List.{List, [], ◌∷◌}
use lib.ListN.{set}
use Rattle.spec.specs.Bytes.{all_zero, number}
use Rattle.spec.specs.Shapes.{resolved, faest128f, level, deeper, depth_of, shape_ok}
use Rattle.spec.specs.Calls.{row_ok}
use Rattle.record.specs.Fields.{field_ok}
use Rattle.spec.specs.Bytes.{big_endian}
use Rattle.record.specs.Record.{head_bytes, version_ok, shape_in, row_in, contents_of}
use Rattle.named_sets.specs.NamedSets.{sets, shape_of_set, row_of_set, named_in, named_ok}
use Rattle.named_sets.specs.NamedCalls.{front_number}

-- FAEST-128s in versions 1 and 2, FAEST-EM-256f in version 3; the numbers of the head begin at place 5, the row length at place 10
first : List ℕ
first = 1 ∷ 0 ∷ 0 ∷ 0 ∷ 9 ∷ 11 ∷ 11 ∷ 7 ∷ 0 ∷ 102 ∷ 0 ∷ 0 ∷ 6 ∷ 144 ∷ []

second : List ℕ
second = 2 ∷ 0 ∷ 0 ∷ 0 ∷ 10 ∷ 11 ∷ 11 ∷ 7 ∷ 0 ∷ 102 ∷ 0 ∷ 0 ∷ 6 ∷ 144 ∷ 16 ∷ []

third : List ℕ
third = 3 ∷ 0 ∷ 0 ∷ 0 ∷ 11 ∷ 32 ∷ 7 ∷ 8 ∷ 0 ∷ 234 ∷ 0 ∷ 0 ∷ 13 ∷ 144 ∷ 32 ∷ 1 ∷ []

-- four zeros with the row length of FAEST-128f, the shape that they stand for
zeros : List ℕ
zeros = 2 ∷ 0 ∷ 0 ∷ 0 ∷ 10 ∷ 0 ∷ 0 ∷ 0 ∷ 0 ∷ 0 ∷ 0 ∷ 0 ∷ 6 ∷ 144 ∷ 16 ∷ []

-- named in each version; rows of 1,688 bits; T 103; four zeros; the default written out is FAEST-128f
fronts :
    (front_number first ≡ 0)
    × (front_number second ≡ 0)
    × (front_number third ≡ 0)
    × (front_number (set second 13 152) ≡ 13)
    × (front_number (set second 9 103) ≡ 13)
    × (front_number (set third 9 235) ≡ 13)
    × (front_number zeros ≡ 13)
    × (front_number (set (set (set (set zeros 5 16) 6 7) 7 8) 9 110) ≡ 0)
unfolding first second third zeros all_zero number resolved faest128f level deeper depth_of shape_ok row_ok big_endian field_ok head_bytes version_ok shape_in row_in contents_of sets shape_of_set row_of_set named_in named_ok front_number
fronts = (refl, refl, refl, refl, refl, refl, refl, refl)

-- what is not named has the number of the front's own tests first: 9, 10, 1, 2
order :
    (front_number (set zeros 0 4) ≡ 9)
    × (front_number (set zeros 4 9) ≡ 10)
    × (front_number (set zeros 5 33) ≡ 1)
    × (front_number (set zeros 13 145) ≡ 2)
unfolding zeros all_zero number resolved faest128f level deeper depth_of shape_ok row_ok big_endian field_ok head_bytes version_ok shape_in row_in contents_of sets shape_of_set row_of_set named_in named_ok front_number
order = (refl, refl, refl, refl)
