-- Examples of the definitions, computed: the whole output for 1 1 127 1, what the lines of 2 2 124 3 give, and numbers.
use mathlib.Core.Path.{◌≡◌, refl}
use mathlib.Core.List.{[], ◌∷◌, ◌++◌}
use lib.ListN.{replicate}
use Rattle.spec.specs.declared.Shape.{Shape}
use Rattle.spec.specs.Bytes.{tabulate, concat, all_zero, number, digits}
use Rattle.spec.specs.Tree.{parent, is_ancestor_within, is_ancestor, some, covered, sibling_to_reveal, revealed_from, revealed, node_count}
use Rattle.spec.specs.Challenge.{bit_at, bits_at, index_at}
use Rattle.spec.specs.Shapes.{faest128f, resolved, level, challenge_bytes, deeper, depth_of, first_bit, leaves, leaf_of, shape_ok, hidden_index, hidden_leaf, hidden_leaves, planned_count}
use Rattle.listing_line.specs.Line.{digit_run, decimal_from, number_ok, number_of, after_number, behind, last_number_ok, shape_line_ok, shape_of}
use Rattle.listing_text.specs.Text.{decimal_within, decimal, refused_text, pair_text}
use Rattle.enumeration_text.specs.Listed.{open_bits, challenge_at, listed_at, listed, sum_of, within, total}
use Rattle.enumeration_text.specs.Text.{hex_text, line_text, lines_text, list_text}
use Rattle.enumeration.specs.Enumeration.{enumeration_number, enumeration}

-- two challenges, each with one node
smallest : enumeration (49 ∷ 32 ∷ 49 ∷ 32 ∷ 49 ∷ 50 ∷ 55 ∷ 32 ∷ 49 ∷ 10 ∷ [])
    ≡ replicate 32 48 ++ (32 ∷ 49 ∷ 10 ∷ 48 ∷ 49 ∷ replicate 30 48 ++ (32 ∷ 49 ∷ 10 ∷ 50 ∷ 32 ∷ 50 ∷ 10 ∷ []))
unfolding tabulate concat all_zero number digits parent is_ancestor_within is_ancestor some covered sibling_to_reveal revealed_from revealed node_count bit_at bits_at index_at faest128f resolved level challenge_bytes deeper depth_of first_bit leaves leaf_of shape_ok hidden_index hidden_leaf hidden_leaves planned_count digit_run decimal_from number_ok number_of after_number behind last_number_ok shape_line_ok shape_of decimal_within decimal refused_text pair_text open_bits challenge_at listed_at listed sum_of within total hex_text line_text lines_text list_text enumeration_number enumeration
smallest = refl

-- P3, P4 and P5 of document 01 are lines 0, 12 and 1 of this shape
abbrev two : Shape
two = record { tau = 2; k = 2; w = 124; t = 3; level = 128; kind = 0 }

totals : (within 3 (listed two) ≡ 8) × (total (listed two) ≡ 52)
unfolding tabulate number digits parent is_ancestor_within is_ancestor some covered sibling_to_reveal revealed_from revealed node_count bit_at bits_at index_at level challenge_bytes deeper depth_of first_bit leaves leaf_of hidden_index hidden_leaf hidden_leaves planned_count open_bits challenge_at listed_at listed sum_of within total
totals = (refl, refl)

-- nothing; `0 0 0 0`, the default; `2 2 122 4`, no shape; `2 2 124 4 ` with a space behind it
numbers : (enumeration_number [] ≡ 7)
    × (enumeration_number (48 ∷ 32 ∷ 48 ∷ 32 ∷ 48 ∷ 32 ∷ 48 ∷ []) ≡ 12)
    × (enumeration_number (50 ∷ 32 ∷ 50 ∷ 32 ∷ 49 ∷ 50 ∷ 50 ∷ 32 ∷ 52 ∷ 10 ∷ []) ≡ 1)
    × (enumeration_number (50 ∷ 32 ∷ 50 ∷ 32 ∷ 49 ∷ 50 ∷ 52 ∷ 32 ∷ 52 ∷ 32 ∷ []) ≡ 7)
unfolding all_zero faest128f resolved level deeper depth_of shape_ok digit_run decimal_from number_ok number_of after_number behind last_number_ok shape_line_ok shape_of open_bits enumeration_number
numbers = (refl, refl, refl, refl)
