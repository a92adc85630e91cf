-- The columns while rows are added in the order of their numbers: columns of zeros, with the last column cleared, with one row more, when half of the numbers are
-- done, and at the end. By the laws of the running sum.
use mathlib.Core.Path.{◌≡◌, refl, sym, ap, ap₂, ◌∙◌, subst}
use mathlib.Core.List.{List}
use Prim.Native.Nat.{ℕ, zero, suc, ◌+◌, ◌-◌, ◌*◌, ◌/◌, ◌%◌, ◌^◌, ◌≤◌, ◌<◌}
use native.Mathlib.Nat.{zero-mul, mul-zero}
use native.Mathlib.Numerals.{add-one}
use native.Mathlib.Decide.{dec_lt}
use native.Mathlib.Omega.{arith}
use lib.Bits.{bit_xor, xor_self, xor_zero_r}
use lib.ListN.{length, get_or}
use Rattle.spec.specs.Bytes.{bit, tabulate, concat, xor_below}
use Rattle.laws.proofs.Xor.{xor_assoc, xor-cancel}
use Rattle.laws.proofs.Concat.{mul-within, is-concat}
use Rattle.laws.proofs.Running.{bit-zero, bit-power, marked, marked_next, marked-highest}
use Rattle.columns.specs.Columns.{Xored, Done, Running, Marked}
use Rattle.columns.proofs.Adding.{behind-start}

-- a power of two has no lower bit
off : (j h n x : ℕ) → j < h → n ≡ 2 ^ h → bit j n * x ≡ 0
off j h n x l e = ap (λ (m : ℕ). bit j m * x) e ∙ ap (λ (d : ℕ). d * x) (bit-power j h l) ∙ zero-mul x

module _ (b h : ℕ) (row : ℕ → ℕ → ℕ) where
  -- nothing of the row of number 0 is in a column
  none : (first j p : ℕ) → first ≤ 1 → marked j first (λ x. row x p) ≡ 0
  unfolding xor_below
  none zero j p l = refl
  none (suc zero) j p l = ap (λ (d : ℕ). bit_xor 0 (d * row 0 p)) (bit-zero j) ∙ ap (bit_xor 0) (zero-mul (row 0 p))
  none (suc (suc first)) j p l = absurd (omega arith)

  -- columns of zeros
  pub marked_start : (first : ℕ) (cols : List ℕ) → first ≤ 1 → length cols ≡ b * (h + 1) → ((q : ℕ) → get_or cols q 0 ≡ 0) → Marked b h first row cols
  marked_start first cols l s z = record { size = s; others = λ j p hj hp. z (b * j + p) ∙ sym (none first j p l) }

  -- the last column is cleared
  pub running-start : (n : ℕ) (old new : List ℕ) → Marked b h n row old → length new ≡ length old
      → ((q : ℕ) → q < b * h → get_or new q 0 ≡ get_or old q 0) → ((q : ℕ) → b * h ≤ q → get_or new q 0 ≡ 0) → Running b h n n row new
  running-start n old new r s same clear =
      record {
        size = s ∙ r.size;
        last = λ p hp. clear (b * h + p) (omega arith) ∙ sym (xor_self (xor_below n (λ x. row x p)));
        others = λ j p hj hp.
            same (b * j + p) (omega (arith, mul-within b j h hj)) ∙ r.others j p hj hp
            ∙ sym (ap (λ (x : ℕ). bit_xor (marked j n (λ x. row x p)) (bit j n * x)) (clear (b * h + p) (omega arith))
            ∙ ap (bit_xor (marked j n (λ x. row x p))) (mul-zero (bit j n)) ∙ xor_zero_r (marked j n (λ x. row x p)));
      }

  -- the row of number n is added to the last column, and then the last column to those whose bit changes from n to n + 1
  pub running-next : (from n : ℕ) (old mid new : List ℕ) → Running b h from n row old → Xored (b * h) (b * h + b) (λ p. row n (p - b * h)) old mid
      → Done b h (λ j p. bit j (bit_xor n (n + 1)) * get_or mid (b * h + p) 0) mid new → Running b h from (n + 1) row new
  unfolding xor_below
  running-next from n old mid new r x d =
      record {
        size = d.first.size ∙ x.size ∙ r.size;
        last = λ p hp.
            d.rest h p (omega arith) hp ∙ sum p hp ∙ ap (λ (y : ℕ). bit_xor y (row n p)) (r.last p hp)
            ∙ xor_assoc (xor_below from (λ x. row x p)) (xor_below n (λ x. row x p)) (row n p)
            ∙ ap (λ (m : ℕ). bit_xor (xor_below from (λ x. row x p)) (xor_below m (λ x. row x p))) (sym (add-one n));
        others = λ j p hj hp.
            d.first.known j p hj hp
            ∙ ap₂ (λ (y z : ℕ). bit_xor y (bit j (bit_xor n (n + 1)) * z))
            (x.outside (b * j + p) (λ a c. omega (arith, mul-within b j h hj)) ∙ r.others j p hj hp) (sum p hp)
            ∙ marked_next j n (λ x. row x p) (get_or old (b * h + p) 0)
            ∙ ap (λ (y : ℕ). bit_xor (marked j (n + 1) (λ x. row x p)) (bit j (n + 1) * y)) (sym (d.rest h p (omega arith) hp ∙ sum p hp));
      }
    where
      sum : (p : ℕ) → p < b → get_or mid (b * h + p) 0 ≡ bit_xor (get_or old (b * h + p) 0) (row n p)
      sum p hp = x.inside (b * h + p) (omega arith) (omega arith) ∙ ap (λ (i : ℕ). bit_xor (get_or old (b * h + p) 0) (row n i)) (behind-start (b * h) p)

  -- half of the numbers are done, or all
  pub running-marked : (from n k : ℕ) (cols : List ℕ) → h ≤ k → n ≡ 2 ^ k → Running b h from n row cols → Marked b h n row cols
  running-marked from n k cols l e r =
      record {
        size = r.size;
        others = λ j p hj hp.
            r.others j p hj hp
            ∙ ap (bit_xor (marked j n (λ x. row x p))) (off j k n (get_or cols (b * h + p) 0) (omega arith) e)
            ∙ xor_zero_r (marked j n (λ x. row x p));
      }

  -- all rows are added
  pub running-end : (half n : ℕ) (cols : List ℕ) → half ≡ 2 ^ h → n ≡ 2 ^ (h + 1) → Running b h half n row cols
      → cols ≡ concat (h + 1) (λ j. tabulate b (λ p. marked j n (λ x. row x p)))
  running-end half n cols e₁ e r = is-concat b (h + 1) (λ j p. marked j n (λ x. row x p)) cols r.size (λ j p hj hp. go j p hj hp (dec_lt j h))
    where
      go : (j p : ℕ) → j < h + 1 → p < b → Dec (j < h) → get_or cols (b * j + p) 0 ≡ marked j n (λ x. row x p)
      go j p hj hp (yes q) = (running-marked half n (h + 1) cols (omega arith) e r).others j p q hp
      go j p hj hp (no q) =
          let same : h ≡ j = omega arith in
          let whole : n ≡ 2 ^ suc h = e ∙ ap (λ (m : ℕ). 2 ^ m) (add-one h) in
          subst (λ (i : ℕ). get_or cols (b * i + p) 0 ≡ marked i n (λ x. row x p)) same
          (r.last p hp
          ∙ ap₂ (λ (l m : ℕ). bit_xor (xor_below l (λ x. row x p)) (xor_below m (λ x. row x p))) e₁ whole
          ∙ sym (ap (λ (m : ℕ). marked h m (λ x. row x p)) whole ∙ marked-highest h (λ x. row x p)))

  -- the sums of the two halves
  pub running-total : (half n p : ℕ) (x y : List ℕ) → p < b → Running b h 0 half row x → Running b h half n row y
      → bit_xor (get_or x (b * h + p) 0) (get_or y (b * h + p) 0) ≡ xor_below n (λ x. row x p)
  unfolding xor_below
  running-total half n p x y hp r s = ap₂ bit_xor (r.last p hp) (s.last p hp) ∙ xor-cancel (xor_below half (λ x. row x p)) (xor_below n (λ x. row x p))
