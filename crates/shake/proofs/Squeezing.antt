-- What is squeezed out part by part: a part that is put in where a block of the output begins is the rule's next bytes.
use mathlib.Core.Path.{◌≡◌, refl, sym, ap, ap₂, ◌∙◌}
use mathlib.Core.List.{List, ◌++◌}
use Prim.Native.Nat.{ℕ, suc, ◌+◌, ◌*◌, ◌≤◌}
use native.Mathlib.Omega.{arith}
use lib.ListN.{length, take, drop}
use Rattle.laws.proofs.Division.{quotient, remainder}
use Rattle.laws.proofs.Filling.{filled, filled_none, filled_put, filled-end, length-filled}
use Rattle.laws.proofs.Lists.{length_part, tabulate-same}
use Rattle.spec.specs.Bytes.{part, tabulate}
use Rattle.spec.specs.Sponge.{state_byte, permuted, output_byte}

-- the first `at` bytes of out are the output of the state z, the others those of out₀
pub record Squeezed (r : ℕ) (z out₀ out : List ℕ) (at : ℕ) : Type 0 where
  pub within : at ≤ length out₀
  pub same : length out ≡ length out₀
  pub front : out ≡ filled at (output_byte r z) out₀

module _ (r : ℕ) (z out₀ : List ℕ) where
  pub squeezed-none : Squeezed r z out₀ out₀ 0
  squeezed-none = record { within = omega arith; same = refl; front = sym (filled_none (output_byte r z) out₀) }

  pub squeezed-all : (out : List ℕ) (at : ℕ) → Squeezed r z out₀ out at → length out ≤ at → out ≡ tabulate (length out₀) (output_byte r z)
  squeezed-all out at s h =
      let all : at ≡ length out₀ = omega arith in
      s.front ∙ filled-end (output_byte r z) out₀ at (omega arith) ∙ ap (λ (n : ℕ). tabulate n (output_byte r z)) all

  -- the state after q permutations gives the output's bytes from r q on
  block-output : (q n : ℕ) → n ≤ r → tabulate n (state_byte (permuted q z)) ≡ tabulate n (λ i. output_byte r z (r * q + i))
  unfolding output_byte
  block-output q n h =
      tabulate-same n (state_byte (permuted q z)) (λ i. output_byte r z (r * q + i))
      (λ i lt.
      let below : suc i ≤ r = omega arith in
      sym (ap₂ (λ (p j : ℕ). state_byte (permuted p z) j) (quotient r q below) (remainder r q below)))

  -- n bytes ys come behind those that are there
  pub squeezed-more : (out : List ℕ) (at q n : ℕ) (lanes ys : List ℕ) → Squeezed r z out₀ out at → at ≡ r * q → lanes ≡ permuted q z → n ≤ r
      → at + n ≤ length out₀ → ys ≡ tabulate (length (part out at n)) (state_byte lanes)
      → Squeezed r z out₀ (take at out ++ (ys ++ drop n (drop at out))) (at + n)
  squeezed-more out at q n lanes ys s place state le fits given =
      let next : ys ≡ tabulate n (λ i. output_byte r z (at + i)) =
      given
      ∙ ap₂ (λ (m : ℕ) (l : List ℕ). tabulate m (state_byte l)) (length_part out at n (omega arith)) state
      ∙ rw place (block-output q n le) in
      let front : take at out ++ (ys ++ drop n (drop at out)) ≡ filled (at + n) (output_byte r z) out₀ =
      ap (λ (t : List ℕ). take at t ++ (ys ++ drop n (drop at t))) s.front ∙ filled_put (output_byte r z) out₀ at n ys next in
      record { within = fits; same = ap length front ∙ length-filled (output_byte r z) out₀ (at + n) fits; front = front }
