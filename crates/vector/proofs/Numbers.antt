-- The entries of a vector by their numbers: number x is that of entry x xor the mask. There are 2 ^ h numbers in each half, h + 1 being the depth; and what is
-- summed up over the numbers is summed up over the entries.
use Prim.Native.Nat.{ℕ, ◌+◌, ◌-◌, ◌*◌, ◌/◌, ◌^◌, ◌≤◌, ◌<◌}
use mathlib.Core.Path.{◌≡◌, sym, ap, ◌∙◌}
use mathlib.Core.Bool.{true}
use native.Mathlib.Nat.{two-pow-succ}
use native.Mathlib.Numerals.{add-one}
use native.Mathlib.Omega.{arith}
use lib.Bits.{bit_xor, xor_lt}
use lib.Pow.{pow_pos}
use Rattle.spec.specs.declared.Shape.{Shape}
use Rattle.spec.specs.declared.Stretch.{Stretch}
use Rattle.spec.specs.Bytes.{tabulate, concat, xor_below}
use Rattle.spec.specs.Shapes.{depth_of, entries_of, shape_ok}
use Rattle.spec.specs.Rows.{u_byte, column_byte}
use Rattle.laws.proofs.Lists.{tabulate-same}
use Rattle.laws.proofs.Concat.{concat-same, mul-within, mul-limit}
use Rattle.laws.proofs.Running.{marked, xor-permuted, marked-permuted}
use Rattle.planning_laws.proofs.Depths.{depth-range}
use Rattle.planning_laws.proofs.ShapeFacts.{shape-facts, depth_small, entries-small}

-- ---- numbers and entries

pub entry_in : (s : Shape) (i x mask : ℕ) → x < entries_of s i → mask < entries_of s i → bit_xor x mask < entries_of s i
unfolding entries_of
entry_in s i x mask h m = xor_lt (depth_of s i) x mask h m

pub entry-end : (s : Shape) (w i x mask : ℕ) → shape_ok s ≡ true → w ≤ 96 → x < entries_of s i → mask < entries_of s i
    → (w * bit_xor x mask + w ≤ w * entries_of s i) × (w * entries_of s i ≤ 393216)
entry-end s w i x mask ok k h m =
    let e = entry_in s i x mask h m in
    (mul-within w (bit_xor x mask) (entries_of s i) e, mul-limit w (entries_of s i) 96 4096 k (entries-small s i (shape-facts s ok)))

-- a stretch of a row is no longer than a row
pub width_small : (z : Stretch) → z.first + z.width ≤ 8192 → z.width ≤ 8192
width_small z h = omega arith

-- the height h of a vector of depth d, and its halves
module _ (s : Shape) (i d : ℕ) (ok : shape_ok s ≡ true) (e : d ≡ depth_of s i) where
  pub deep : 1 ≤ d
  deep = (let r = depth-range s i in let f = shape-facts s ok in omega arith)

  pub height : d - 1 + 1 ≡ depth_of s i
  height = (let p = deep in omega arith)

  pub height-small : d - 1 ≤ 11
  height-small = (let m = depth_small s i (shape-facts s ok) in omega arith)

  pub whole_is : (n : ℕ) → n ≡ entries_of s i → n ≡ 2 ^ (d - 1 + 1)
  unfolding entries_of
  whole_is n q = q ∙ ap (λ (m : ℕ). 2 ^ m) (sym height)

  pub half_is : (n : ℕ) → n ≡ entries_of s i → (n / 2 ≡ 2 ^ (d - 1)) × (1 ≤ n / 2) × (n / 2 ≤ n)
  half_is n q =
      let a : n ≡ 2 ^ (d - 1) + 2 ^ (d - 1) = whole_is n q ∙ ap (λ (m : ℕ). 2 ^ m) (add-one (d - 1)) ∙ two-pow-succ (d - 1) in
      let p = pow_pos (d - 1) in
      (omega arith, omega arith, omega arith)

-- ---- sums over the numbers

-- `row i e p` is byte p of the row of entry e
module _ (s : Shape) (row : ℕ → ℕ → ℕ → ℕ) (i mask : ℕ) (m : mask < entries_of s i) where
  pub u-by-number : (n p : ℕ) → n ≡ entries_of s i → xor_below n (λ x. row i (bit_xor x mask) p) ≡ u_byte s row i p
  unfolding entries_of u_byte
  u-by-number n p e =
      ap (λ (k : ℕ). xor_below k (λ x. row i (bit_xor x mask) p)) e
      ∙ xor-permuted (depth_of s i) mask (λ e. row i e p) m

  column-by-number : (n j p : ℕ) → n ≡ entries_of s i → marked j n (λ x. row i (bit_xor x mask) p) ≡ column_byte s row (λ e. bit_xor e mask) i j p
  unfolding entries_of column_byte
  column-by-number n j p e =
      ap (λ (k : ℕ). marked j k (λ x. row i (bit_xor x mask) p)) e
      ∙ marked-permuted (depth_of s i) mask j (λ e. row i e p) m

  pub columns-by-number : (b k n : ℕ) → k ≡ depth_of s i → n ≡ entries_of s i → concat k (λ j. tabulate b (λ p. marked j n (λ x. row i (bit_xor x mask) p)))
      ≡ concat (depth_of s i) (λ j. tabulate b (column_byte s row (λ e. bit_xor e mask) i j))
  columns-by-number b k n ek e =
      ap (λ (c : ℕ). concat c (λ j. tabulate b (λ p. marked j n (λ x. row i (bit_xor x mask) p)))) ek
      ∙ concat-same (λ j. tabulate b (λ p. marked j n (λ x. row i (bit_xor x mask) p))) (λ j. tabulate b (column_byte s row (λ e. bit_xor e mask) i j)) (depth_of s i)
      (λ j h. tabulate-same b (λ p. marked j n (λ x. row i (bit_xor x mask) p)) (column_byte s row (λ e. bit_xor e mask) i j) (λ p l. column-by-number n j p e))
