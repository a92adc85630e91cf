-- The entry of an opening, by what its tests give.
use Prim.Native.Nat.{ℕ, ◌-◌, ◌≤◌}
use mathlib.Core.Path.{◌≡◌, refl}
use mathlib.Core.List.{List}
use borrow.Author.Tests.{leb-true, ne_eqb}
use Rattle.spec.specs.declared.Shape.{Shape}
use Rattle.spec.specs.Shapes.{planned_count}
use Rattle.spec.specs.Calls.{count_with, nodes_ok}
use Rattle.refusals.specs.Numbers.{opening_tests, opening_number, Answered}
use Rattle.refusals.proofs.Lists.{passed-all}
use Rattle.report_text.specs.declared.Entry.{Entry}
use Rattle.report_text.specs.Entries.{opened_entry}

-- the entry of a record that stops the reading, n bytes before the end
abbrev pub stopped : ℕ → ℕ → Entry
stopped n k = record { number = k; count = 0; unused = 0; bytes = n }

-- s is the resolved shape of a record of b bytes, ch its challenge and op its opening
module _ (s : Shape) (ch op : List ℕ) (b : ℕ) where
  pub entry-refused : (k : ℕ) → k ≡ opening_number s ch op → (k ≡ 0 → ⊥) → stopped b k ≡ opened_entry s ch op b
  unfolding opening_number
  entry-refused k e bad = let z = ne_eqb k 0 bad in rw (← e, z) refl

  -- n is the count
  pub entry-passed : (n : ℕ) → Answered (opening_number s ch op) (planned_count s ch) (record { number = 0; count = n })
      → record { number = 0; count = n; unused = s.t - n; bytes = b } ≡ opened_entry s ch op b
  unfolding opening_number count_with
  entry-passed n a = rw (← a.0, a.1) refl

  pub within : (n : ℕ) → Answered (opening_number s ch op) (planned_count s ch) (record { number = 0; count = n }) → n ≤ s.t
  unfolding opening_number count_with nodes_ok
  within n a =
      let q = passed-all (opening_tests s ch op) (refl, (refl, (refl, tt))) 0 a.0 refl in
      rw a.1 (leb-true (planned_count s ch) s.t q.1.0)
