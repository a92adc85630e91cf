-- Reports of short strings, computed: no byte, a stray byte, records of versions 1 and 2, a cut one, each refusal, and where the reading stops.
use Prim.Native.Nat.{ℕ}
use mathlib.Core.Path.{◌≡◌, refl}
use mathlib.Core.List.{List, [], ◌∷◌, ◌++◌}
use lib.ListN.{take, drop, set}
use Rattle.spec.specs.Bytes.{tabulate, zeros, all_zero, number}
use Rattle.spec.specs.Tree.{parent, is_ancestor_within, is_ancestor, some, covered, sibling_to_reveal, revealed_from, revealed, node_count}
use Rattle.spec.specs.Challenge.{bit_at, bits_at, index_at, clear_at}
use Rattle.spec.specs.Shapes.{faest128f, resolved, level, node_bytes, challenge_bytes, leaf_commitment_bytes, hash_bytes, deeper, depth_of, first_bit, leaves, leaf_of, shape_ok, hidden_index, hidden_leaf, hidden_leaves, grinding_ok, planned_count, opening_bytes, corrections_bytes}
use Rattle.spec.specs.Verifier.{slots_ok}
use Rattle.spec.specs.Calls.{row_ok, nodes_ok}
use Rattle.record.specs.Fields.{field_ok}
use Rattle.spec.specs.Bytes.{big_endian}
use Rattle.record.specs.Record.{head_bytes, version_ok, shape_in, row_in, corrections_place, opening_place, commitment_place, record_end, rest_ok, contents_of}
use Rattle.listing_text.specs.Text.{decimal_within, decimal, refused_text, pair_text}
use Rattle.report_text.specs.declared.Entry.{Entry}
use Rattle.report_text.specs.Entries.{entry_number, entry_of, entries_within, entries, accepted, sum_of, nodes_total, unused_total}
use Rattle.report_text.specs.Text.{line_text, lines_from, total_text, entries_text, report_text}

-- a field of n zeros, n below 256
field : ℕ → List ℕ
field n = (0 ∷ 0 ∷ 0 ∷ n ∷ []) ++ zeros n

-- version 1, tau 1, k 1, w 127, T 2, rows of 8 bits: 178 bytes. The opening has one node, and one slot is unused
one : List ℕ
one = (1 ∷ 0 ∷ 0 ∷ 0 ∷ 9 ∷ 1 ∷ 1 ∷ 127 ∷ 0 ∷ 2 ∷ 0 ∷ 0 ∷ 0 ∷ 8 ∷ []) ++ (field 16 ++ (field 16 ++ (field 0 ++ (field 80 ++ field 32))))

-- the same in version 2, whose head has the level in bytes
two : List ℕ
two = (2 ∷ 0 ∷ 0 ∷ 0 ∷ 10 ∷ 1 ∷ 1 ∷ 127 ∷ 0 ∷ 2 ∷ 0 ∷ 0 ∷ 0 ∷ 8 ∷ 16 ∷ []) ++ drop 14 one

-- tau 1, k 2, w 126, T 1: two nodes are revealed
full : List ℕ
full = (1 ∷ 0 ∷ 0 ∷ 0 ∷ 9 ∷ 1 ∷ 2 ∷ 126 ∷ 0 ∷ 1 ∷ 0 ∷ 0 ∷ 0 ∷ 8 ∷ []) ++ (field 16 ++ (field 16 ++ (field 0 ++ (field 64 ++ field 32))))

-- `total 0 0`; `1 refused 9` and `total 0 0`
none : (report_text [] ≡ 116 ∷ 111 ∷ 116 ∷ 97 ∷ 108 ∷ 32 ∷ 48 ∷ 32 ∷ 48 ∷ 10 ∷ [])
    × (report_text (7 ∷ [])
    ≡ 49 ∷ 32 ∷ 114 ∷ 101 ∷ 102 ∷ 117 ∷ 115 ∷ 101 ∷ 100 ∷ 32 ∷ 57 ∷ 10 ∷ 116 ∷ 111 ∷ 116 ∷ 97 ∷ 108 ∷ 32 ∷ 48 ∷ 32 ∷ 48 ∷ 10 ∷ [])
unfolding head_bytes version_ok decimal_within decimal refused_text pair_text entry_number entry_of entries_within accepted sum_of nodes_total unused_total line_text lines_from total_text entries_text report_text
none = (refl, refl)

-- two records and a cut one: `1 1 1`, `2 1 1`, `3 refused 10`, `total 2 2`
cut : report_text (one ++ (two ++ take 100 one))
    ≡ 49 ∷ 32 ∷ 49 ∷ 32 ∷ 49 ∷ 10 ∷ 50 ∷ 32 ∷ 49 ∷ 32 ∷ 49 ∷ 10 ∷ 51 ∷ 32 ∷ 114 ∷ 101 ∷ 102 ∷ 117 ∷ 115 ∷ 101 ∷ 100 ∷ 32 ∷ 49 ∷ 48 ∷ 10 ∷ 116 ∷ 111 ∷ 116 ∷ 97 ∷ 108 ∷ 32 ∷ 50 ∷ 32 ∷ 50 ∷ 10 ∷ []
unfolding field one two tabulate zeros all_zero number parent is_ancestor_within is_ancestor some covered sibling_to_reveal revealed_from revealed node_count bit_at bits_at index_at clear_at faest128f resolved level node_bytes challenge_bytes leaf_commitment_bytes hash_bytes deeper depth_of first_bit leaves leaf_of shape_ok hidden_index hidden_leaf hidden_leaves grinding_ok planned_count opening_bytes corrections_bytes slots_ok row_ok nodes_ok big_endian field_ok head_bytes version_ok shape_in row_in corrections_place opening_place commitment_place record_end rest_ok contents_of decimal_within decimal refused_text pair_text entry_number entry_of entries_within accepted sum_of nodes_total unused_total line_text lines_from total_text entries_text report_text
cut = refl

numbers : List Entry → List ℕ
numbers [] = []
numbers (e ∷ es) = e.number ∷ numbers es

-- a grinding bit set, more nodes than T, a byte in the unused slot, and behind them a record that is counted: none of them stops, and none is counted but the last
refused : List ℕ
refused = set one 53 128 ++ (full ++ (set one 141 1 ++ two))

go_on : (numbers (entries refused) ≡ 4 ∷ 5 ∷ 6 ∷ 0 ∷ []) × (nodes_total (entries refused) ≡ 1) × (unused_total (entries refused) ≡ 1)
unfolding numbers refused field one two full tabulate zeros all_zero number parent is_ancestor_within is_ancestor some covered sibling_to_reveal revealed_from revealed node_count bit_at bits_at index_at clear_at faest128f resolved level node_bytes challenge_bytes leaf_commitment_bytes hash_bytes deeper depth_of first_bit leaves leaf_of shape_ok hidden_index hidden_leaf hidden_leaves grinding_ok planned_count opening_bytes corrections_bytes slots_ok row_ok nodes_ok big_endian field_ok head_bytes version_ok shape_in row_in corrections_place opening_place commitment_place record_end rest_ok contents_of entry_number entry_of entries_within accepted sum_of nodes_total unused_total
go_on = (refl, refl, refl)

-- tau 0, a row of 12 bits, another version and another length of the head, each before a record that is not read
stop : (numbers (entries (set one 5 0 ++ one)) ≡ 1 ∷ [])
    × (numbers (entries (one ++ (set one 13 12 ++ one))) ≡ 0 ∷ 2 ∷ [])
    × (numbers (entries (set one 0 9 ++ one)) ≡ 9 ∷ [])
    × (numbers (entries (set one 4 10 ++ one)) ≡ 10 ∷ [])
unfolding numbers field one tabulate zeros all_zero number parent is_ancestor_within is_ancestor some covered sibling_to_reveal revealed_from revealed node_count bit_at bits_at index_at clear_at faest128f resolved level node_bytes challenge_bytes leaf_commitment_bytes hash_bytes deeper depth_of first_bit leaves leaf_of shape_ok hidden_index hidden_leaf hidden_leaves grinding_ok planned_count opening_bytes corrections_bytes slots_ok row_ok nodes_ok big_endian field_ok head_bytes version_ok shape_in row_in corrections_place opening_place commitment_place record_end rest_ok contents_of entry_number entry_of entries_within
stop = (refl, refl, refl, refl)
