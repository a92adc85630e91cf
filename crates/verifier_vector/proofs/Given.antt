-- A vector whose entry d is hidden: its number is d xor d, which is 0, so that the others are those of the numbers from 1 on. Its leaf commitment stands in its
-- place before the others are written, so that what is hashed is the buffer itself.
use mathlib.Core.Path.{◌≡◌, refl, sym, ap, ◌∙◌}
use mathlib.Core.Bool.{Bool, true, false, cond}
use mathlib.Core.List.{List, ◌++◌}
use Prim.Native.Nat.{ℕ, ◌+◌, ◌*◌, ◌^◌, ◌≤◌, ◌<◌}
use native.Mathlib.Omega.{arith}
use lib.Bits.{bit_xor, xor_self}
use lib.Dec.{eqb}
use lib.ListN.{length, take, drop, take-append-drop}
use lib.Seq.{drop-drop}
use borrow.Author.Tests.{eq-eqb, ne_eqb}
use Rattle.spec.specs.Bytes.{part, concat}
use Rattle.laws.proofs.Xor.{xor-cancel-r}
use Rattle.laws.proofs.Concat.{even-part, mul-within}
use Rattle.laws.proofs.Putting.{put, put-size, put-here}
use Rattle.vector.specs.Entries.{Written}
use Rattle.vector.proofs.Buffers.{copied}
use Rattle.vector.proofs.Entries.{written_all}
use Rattle.verifier_vector.specs.Vector.{given}

-- w is the length of a leaf commitment
module _ (w : ℕ) (hidden : List ℕ) (own : ℕ → List ℕ) (d : ℕ) where
  pub at-hidden : given hidden own d d ≡ hidden
  at-hidden = ap (λ (t : Bool). cond t hidden (own d)) (eq-eqb d d refl)

  -- only number 0 is that of entry d
  elsewhere : (x : ℕ) → 1 ≤ x → own (bit_xor x d) ≡ given hidden own d (bit_xor x d)
  elsewhere x h = sym (ap (λ (t : Bool). cond t hidden (own (bit_xor x d))) (ne_eqb (bit_xor x d) d (λ e. none (sym (xor-cancel-r x d) ∙ ap (λ (y : ℕ). bit_xor y d) e ∙ xor_self d))))
    where
      none : x ≡ 0 → ⊥
      none e = omega arith

  pub all-given : (k : ℕ) (lcs old new : List ℕ) → d < 2 ^ k → length lcs ≡ w * 2 ^ k → length hidden ≡ w
      → old ≡ take (w * d) lcs ++ (part hidden 0 w ++ drop (w * d + w) lcs) → Written w own d 1 (2 ^ k) old new → new ≡ concat (2 ^ k) (given hidden own d)
  all-given k lcs old new m l s e g = written_all w own d k 1 (given hidden own d) old new m (ap length there ∙ put-size lcs hidden (w * d) w room s ∙ l) elsewhere (λ x h. first x (omega arith)) g
    where
      room : w * d + w ≤ length lcs
      room = (let h = mul-within w d (2 ^ k) m in omega arith)

      there : old ≡ put lcs (w * d) w hidden
      there = copied (w * d) w lcs hidden old s e

      first : (x : ℕ) → x ≡ 0 → part old (w * bit_xor x d) w ≡ given hidden own d (bit_xor x d)
      first x z =
          ap (λ (y : ℕ). part old (w * bit_xor y d) w) z
          ∙ ap (λ (v : List ℕ). part v (w * d) w) there
          ∙ put-here lcs hidden (w * d) w room s
          ∙ sym (ap (λ (y : ℕ). given hidden own d (bit_xor y d)) z ∙ at-hidden)

  given-size : length hidden ≡ w → ((e : ℕ) → length (own e) ≡ w) → (e : ℕ) → length (given hidden own d e) ≡ w
  given-size h o e = go (eqb e d)
    where
      go : (t : Bool) → length (cond t hidden (own e)) ≡ w
      go true = h
      go false = o e

  -- what is hashed is the buffer itself
  pub hashed-whole : (n : ℕ) (lcs : List ℕ) → d < n → length hidden ≡ w → ((e : ℕ) → length (own e) ≡ w) → lcs ≡ concat n (given hidden own d)
      → take (w * d) lcs ++ (hidden ++ drop (w * d + w) lcs) ≡ lcs
  hashed-whole n lcs l h o e =
      let place : hidden ≡ part lcs (w * d) w =
      sym (ap (λ (v : List ℕ). part v (w * d) w) e ∙ even-part (given hidden own d) w n d (λ i k. given-size h o i) l ∙ at-hidden)
      in
      ap (λ (v : List ℕ). take (w * d) lcs ++ v)
      (ap (λ (v : List ℕ). v ++ drop (w * d + w) lcs) place
      ∙ ap (λ (v : List ℕ). part lcs (w * d) w ++ v) (sym (drop-drop w (w * d) lcs))
      ∙ take-append-drop w (drop (w * d) lcs))
      ∙ take-append-drop (w * d) lcs
