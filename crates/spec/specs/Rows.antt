-- Document 000, sections 5.4, 5.5.2 and 5.5.3; document 01, "Rows and matrices": the rows of a vector, its u, its columns, and the matrix of all columns. u and columns are
-- those of any rows: `row i e p` is byte p of the row of entry e of vector i. b is the length of these rows in bytes.
use Rattle.std.specs.Prelude.{ℕ, ◌+◌, ◌*◌, ◌^◌, List, ◌++◌}
use Rattle.spec.specs.declared.Shape.{Shape}
use Rattle.spec.specs.declared.Stretch.{Stretch}
use Rattle.spec.specs.Bytes.{bit, concat, zeros, xor_below}
use Rattle.spec.specs.Shapes.{depth_of, entries_of}
use Rattle.spec.specs.Primitives.{Primitives}
use Rattle.spec.specs.Leaves.{leaf_key, leaf_seed}

-- byte p of the row of entry e of vector i: its seed, stretched with tweak i + 2^31
unfoldable pub row_byte : Primitives → Shape → List ℕ → List ℕ → ℕ → ℕ → ℕ → ℕ
row_byte P s iv tree i e p = P.prg_byte s (leaf_seed P s iv i (leaf_key s tree i e)) iv (i + 2 ^ 31) p

-- document 02, E1: the same bytes from byte f of each row on, f being the first of the stretch
unfoldable pub stretch_byte : Primitives → Shape → Stretch → List ℕ → List ℕ → ℕ → ℕ → ℕ → ℕ
stretch_byte P s z iv tree i e p = row_byte P s iv tree i e (z.first + p)

-- byte p of the u of vector i: the xor of all its rows
unfoldable pub u_byte : Shape → (ℕ → ℕ → ℕ → ℕ) → ℕ → ℕ → ℕ
u_byte s row i p = xor_below (entries_of s i) (λ e. row i e p)

-- byte p of column j of vector i: the xor of the rows whose entry e has bit j of its number set. The signer numbers an entry by itself, the verifier
-- by e xor the hidden index.
unfoldable pub column_byte : Shape → (ℕ → ℕ → ℕ → ℕ) → (ℕ → ℕ) → ℕ → ℕ → ℕ → ℕ
column_byte s row number_of i j p = xor_below (entries_of s i) (λ e. bit j (number_of e) * row i e p)

-- the matrix with the columns `column i j` of each vector i, j below its depth; the last w columns are zero
unfoldable pub matrix_of : Shape → ℕ → (ℕ → ℕ → List ℕ) → List ℕ
matrix_of s b column = concat s.tau (λ i. concat (depth_of s i) (column i)) ++ zeros (b * s.w)
