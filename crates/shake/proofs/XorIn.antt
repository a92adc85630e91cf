-- A string xored into a state: one that goes on where another ended, and the empty one. Lane by lane, by the number that the xor of two strings writes.
use mathlib.Core.Path.{◌≡◌, sym, ap, ◌∙◌}
use mathlib.Core.List.{List, [], ◌++◌}
use Prim.Native.Nat.{ℕ, ◌*◌, ◌≤◌}
use native.Mathlib.Omega.{arith}
use lib.Bits.{bit_xor, xor_zero_r}
use lib.ListN.{length, get_or, drop_of_length-le}
use Rattle.laws.proofs.Lists.{get_or-tabulate, tabulate-same, is-tabulate}
use Rattle.laws.proofs.Numbers.{Digits}
use Rattle.laws.proofs.Strings.{digits-zeros, digits_append, number-xor, append-xor}
use Rattle.laws.proofs.Xor.{xor_assoc}
use Rattle.spec.specs.Bytes.{zeros, number}
use Rattle.spec.specs.Sponge.{lane_of, xor_in}

-- a lane past the end of the string
pub lane-none : (p : List ℕ) (j : ℕ) → length p ≤ 8 * j → lane_of p j ≡ 0
unfolding lane_of number
lane-none p j h = rw (drop_of_length-le p h)

pub xor_in-none : (s : List ℕ) → length s ≡ 25 → xor_in s [] ≡ s
unfolding xor_in
xor_in-none s e =
    sym (is-tabulate 25 (λ j. bit_xor (get_or s j 0) (lane_of [] j)) 0 s e
    (λ j lt. sym (ap (bit_xor (get_or s j 0)) (lane-none [] j (omega arith)) ∙ xor_zero_r (get_or s j 0))))

module _ (s t p : List ℕ) (n : ℕ) (ht : Digits 8 t) (hp : Digits 8 p) where
  -- p behind as many zeros as t has bytes, and n zeros behind it
  abbrev later : List ℕ
  later = zeros (length t) ++ (p ++ zeros n)

  lane-more : (j : ℕ) → lane_of (t ++ p) j ≡ bit_xor (lane_of t j) (lane_of later j)
  unfolding lane_of
  lane-more j =
      number-xor 8 t later (t ++ p) ht
      (digits_append 8 (zeros (length t)) (p ++ zeros n) (digits-zeros 8 (length t)) (digits_append 8 p (zeros n) hp (digits-zeros 8 n)))
      (append-xor t p n) (8 * j) 8

  pub xor_in-more : xor_in (xor_in s t) later ≡ xor_in s (t ++ p)
  unfolding xor_in
  xor_in-more =
      tabulate-same 25 (λ j. bit_xor (get_or (xor_in s t) j 0) (lane_of later j)) (λ j. bit_xor (get_or s j 0) (lane_of (t ++ p) j))
      (λ j lt.
      ap (λ (x : ℕ). bit_xor x (lane_of later j)) (get_or-tabulate 25 (λ j. bit_xor (get_or s j 0) (lane_of t j)) j 0 lt)
      ∙ xor_assoc (get_or s j 0) (lane_of t j) (lane_of later j)
      ∙ ap (bit_xor (get_or s j 0)) (sym (lane-more j)))
