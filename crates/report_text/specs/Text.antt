-- Document 02, E14: the bytes of the report, as a function of the bytes of the input. Texts are ASCII; numbers, refusals and line ends are those of the listing program.
use Rattle.std.specs.Prelude.{ℕ, suc, cond, List, [], ◌∷◌, ◌++◌, leb, eqb, length}
use Rattle.listing_text.specs.Text.{decimal, refused_text, pair_text}
use Rattle.report_text.specs.declared.Entry.{Entry}
use Rattle.report_text.specs.Entries.{entries, nodes_total, unused_total}

-- the place, a space, then the node count, a space and the unused slots, or the refusal
unfoldable pub line_text : ℕ → Entry → List ℕ
line_text place e = (decimal place ++ (32 ∷ [])) ++ cond (eqb e.number 0) (pair_text e.count e.unused) (refused_text e.number)

-- a line for each entry, from a place on
unfoldable pub lines_from : ℕ → List Entry → List ℕ
lines_from place [] = []
lines_from place (e ∷ es) = line_text place e ++ lines_from (suc place) es

-- `total `, the nodes, a space and the unused slots
unfoldable pub total_text : ℕ → ℕ → List ℕ
total_text nodes unused = (116 ∷ 111 ∷ 116 ∷ 97 ∷ 108 ∷ 32 ∷ []) ++ pair_text nodes unused

-- the whole report of the entries, with places from 1
unfoldable pub entries_text : List Entry → List ℕ
entries_text es = lines_from 1 es ++ total_text (nodes_total es) (unused_total es)

-- 7: more than 64 KiB, tested before any record
unfoldable pub report_text : List ℕ → List ℕ
report_text input = cond (leb (length input) 65536) (entries_text (entries input)) (refused_text 7)
