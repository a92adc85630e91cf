-- The two halves of a vector's numbers: each lies within the vector, the columns from one to the other, and those that both leave. `first` is the first number
-- whose row is added, 0 or 1.
use Prim.Native.Nat.{ℕ, ◌+◌, ◌-◌, ◌*◌, ◌/◌, ◌^◌, ◌≤◌, ◌<◌}
use mathlib.Core.Path.{◌≡◌, refl, sym, ap, ◌∙◌}
use mathlib.Core.Bool.{true}
use mathlib.Core.List.{List, ◌++◌}
use native.Mathlib.Nat.{le_refl}
use native.Mathlib.Omega.{arith}
use lib.Bits.{bit_xor}
use lib.ListN.{length, take}
use Rattle.spec.specs.Bytes.{tabulate, concat, zeros}
use Rattle.spec.specs.Shapes.{depth_of, entries_of, shape_ok}
use Rattle.spec.specs.Rows.{column_byte}
use Rattle.columns.specs.Columns.{Running, Marked}
use Rattle.columns.proofs.Running.{marked_start, running-marked, running-end}
use Rattle.job.specs.declared.Job.{Job}
use Rattle.vector.specs.declared.Run.{Run}
use Rattle.job.specs.Jobs.{entry_byte}
use Rattle.vector.specs.Entries.{numbered, Inside}
use Rattle.vector.proofs.Buffers.{cleared-behind}
use Rattle.vector.proofs.Numbers.{height, whole_is, half_is, columns-by-number}

-- n is the number of entries of vector i
module _ (g : Job) (ok : shape_ok g.shape ≡ true) (i mask n : ℕ) (e : n ≡ entries_of g.shape i) (m : mask < entries_of g.shape i) where
  abbrev pub lower : ℕ → Run
  lower first = record { vector = i; from = first; to = n / 2; mask = mask }

  abbrev pub upper : Run
  upper = record { vector = i; from = n / 2; to = n; mask = mask }

  abbrev h : ℕ
  h = depth_of g.shape i - 1

  halves : (n / 2 ≡ 2 ^ h) × (1 ≤ n / 2) × (n / 2 ≤ n)
  halves = half_is g.shape i (depth_of g.shape i) ok refl n e

  pub lower-inside : (first : ℕ) → first ≤ 1 → i < g.shape.tau → Inside g (lower first)
  lower-inside first l v = (let p = halves in record { vector = v; order = omega arith; all = omega arith; mask = m })

  pub upper-inside : i < g.shape.tau → Inside g upper
  upper-inside v = (let p = halves in record { vector = v; order = omega arith; all = omega arith; mask = m })

  -- columns that were cleared
  pub lower-marked : (tree : List ℕ) (first k : ℕ) (old new : List ℕ) → first ≤ 1 → length old ≡ g.stretch.width * depth_of g.shape i → length new ≡ length old
      → new ≡ take 0 old ++ zeros k → Marked g.stretch.width h first (numbered g tree (lower first)) new
  lower-marked tree first k old new l s kept c =
      marked_start g.stretch.width h (numbered g tree (lower first)) first new l
      (kept ∙ s ∙ ap (λ (d : ℕ). g.stretch.width * d) (sym (height g.shape i (depth_of g.shape i) ok refl))) (λ q. cleared-behind 0 k old new (omega arith) c q (omega arith))

  pub upper-marked : (tree : List ℕ) (first : ℕ) (x : List ℕ) → Running g.stretch.width h first (n / 2) (numbered g tree (lower first)) x
      → Marked g.stretch.width h (n / 2) (numbered g tree upper) x
  upper-marked tree first x r = running-marked g.stretch.width h (numbered g tree upper) first (n / 2) h x (le_refl h) halves.0 r

  pub columns_of : (tree y : List ℕ) → Running g.stretch.width h (n / 2) n (numbered g tree upper) y
      → y ≡ concat (depth_of g.shape i) (λ j. tabulate g.stretch.width (column_byte g.shape (entry_byte g tree) (λ e. bit_xor e mask) i j))
  columns_of tree y r =
      running-end g.stretch.width h (numbered g tree upper) (n / 2) n y halves.0 (whole_is g.shape i (depth_of g.shape i) ok refl n e) r
      ∙ columns-by-number g.shape (entry_byte g tree) i mask m g.stretch.width (h + 1) n (height g.shape i (depth_of g.shape i) ok refl) e
