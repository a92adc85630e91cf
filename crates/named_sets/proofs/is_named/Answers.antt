-- The code's rows are those of the table, their depths and row lengths computed: it asks for the sets of FAEST-EM, the last six, first.
use mathlib.Core.Path.{sym, ap₂, ◌∙◌}
use mathlib.Core.Bool.{◌||◌, or-false}
use Rattle.named_sets.specs.NamedSets.{sets, shape_of_set, row_of_set, named_in, named_ok}
use Rattle.named_sets.proofs.is_named.Goals as goal

pub returns : goal.returns
unfolding sets shape_of_set row_of_set named_in named_ok
returns c =
    ap₂ ◌||◌ c.is_row-7.ensures
    (ap₂ ◌||◌ c.is_row-8.ensures
    (ap₂ ◌||◌ c.is_row-9.ensures
    (ap₂ ◌||◌ c.is_row-10.ensures
    (ap₂ ◌||◌ c.is_row-11.ensures
    (ap₂ ◌||◌ c.is_row-12.ensures
    (ap₂ ◌||◌ c.is_row.ensures
    (ap₂ ◌||◌ c.is_row-2.ensures
    (ap₂ ◌||◌ c.is_row-3.ensures
    (ap₂ ◌||◌ c.is_row-4.ensures
    (ap₂ ◌||◌ c.is_row-5.ensures (c.is_row-6.ensures ∙ sym (or-false _))))))))))))
