-- The leaf commitments of a vector, written in the order of the entries' numbers: none, one more, two runs, all of them. By the laws of a part that is lent.
use Prim.Native.Nat.{ℕ, ◌+◌, ◌*◌, ◌^◌, ◌≤◌, ◌<◌}
use mathlib.Core.Path.{◌≡◌, refl, sym, ap, ◌∙◌, subst}
use mathlib.Core.List.{List}
use native.Mathlib.Decide.{dec_lt, ℕ_discrete}
use native.Mathlib.Omega.{arith}
use lib.Bits.{bit_xor, xor_lt}
use lib.ListN.{length}
use Rattle.spec.specs.Bytes.{part, concat}
use Rattle.laws.proofs.Xor.{xor-cancel-r}
use Rattle.laws.proofs.Concat.{parts-concat, mul-within}
use Rattle.laws.proofs.Putting.{put, put-size, put-here, put-before, put-after}
use Rattle.vector.specs.Entries.{Written}

-- numbers that are not equal are those of two entries
apart : (x n mask : ℕ) → (x ≡ n → ⊥) → bit_xor x mask ≡ bit_xor n mask → ⊥
apart x n mask q e = q (sym (xor-cancel-r x mask) ∙ ap (λ (y : ℕ). bit_xor y mask) e ∙ xor-cancel-r n mask)

elsewhere : (w : ℕ) (l y : List ℕ) (a e : ℕ) → w * e + w ≤ length l → length y ≡ w → (a ≡ e → ⊥)
    → part (put l (w * e) w y) (w * a) w ≡ part l (w * a) w
elsewhere w l y a e h s q = go (dec_lt a e)
  where
    go : Dec (a < e) → part (put l (w * e) w y) (w * a) w ≡ part l (w * a) w
    go (yes c) = put-before l y (w * e) w h s (w * a) w (mul-within w a e c)
    go (no c) = put-after l y (w * e) w h s (w * a) w (mul-within w e a (omega arith))

module _ (w : ℕ) (own : ℕ → List ℕ) (mask : ℕ) where
  pub written_none : (from : ℕ) (l : List ℕ) → Written w own mask from from l l
  written_none from l = record { size = refl; fresh = λ x a b. absurd (omega arith); kept = λ x a. refl }

  pub written-more : (from n : ℕ) (old mid y : List ℕ) (h : w * bit_xor n mask + w ≤ length mid) (s : length y ≡ w) → from ≤ n → y ≡ own (bit_xor n mask)
      → Written w own mask from n old mid → Written w own mask from (n + 1) old (put mid (w * bit_xor n mask) w y)
  written-more from n old mid y h s hn e d =
      record {
        size = put-size mid y (w * bit_xor n mask) w h s ∙ d.size;
        fresh = λ x a b. go x a b (ℕ_discrete x n);
        kept = λ x a. elsewhere w mid y (bit_xor x mask) (bit_xor n mask) h s (apart x n mask (λ z. omega arith)) ∙ d.kept x a;
      }
    where
      go : (x : ℕ) → from ≤ x → x < n + 1 → Dec (x ≡ n) → part (put mid (w * bit_xor n mask) w y) (w * bit_xor x mask) w ≡ own (bit_xor x mask)
      go x a b (yes q) =
          subst (λ (z : ℕ). part (put mid (w * bit_xor n mask) w y) (w * bit_xor z mask) w ≡ own (bit_xor z mask)) (sym q)
          (put-here mid y (w * bit_xor n mask) w h s ∙ e)
      go x a b (no q) = elsewhere w mid y (bit_xor x mask) (bit_xor n mask) h s (apart x n mask q) ∙ d.fresh x a (omega arith)

  pub written_then : (from at n : ℕ) (old mid new : List ℕ) → from ≤ at → Written w own mask from at old mid → Written w own mask at n mid new → Written w own mask from n old new
  written_then from at n old mid new h v d =
      record {
        size = d.size ∙ v.size;
        fresh = λ x a b. go x a b (dec_lt x at);
        kept = λ x a. d.kept x (omega arith) ∙ v.kept x a;
      }
    where
      go : (x : ℕ) → from ≤ x → x < n → Dec (x < at) → part new (w * bit_xor x mask) w ≡ own (bit_xor x mask)
      go x a b (yes c) = d.kept x c ∙ v.fresh x a c
      go x a b (no c) = d.fresh x (omega arith) b

  -- all of them: `all` gives those written, and those that stood there before
  pub written_all : (k first : ℕ) (all : ℕ → List ℕ) (old new : List ℕ) → mask < 2 ^ k → length old ≡ w * 2 ^ k
      → ((x : ℕ) → first ≤ x → own (bit_xor x mask) ≡ all (bit_xor x mask)) → ((x : ℕ) → x < first → part old (w * bit_xor x mask) w ≡ all (bit_xor x mask))
      → Written w own mask first (2 ^ k) old new → new ≡ concat (2 ^ k) all
  written_all k first all old new m l f g d = parts-concat all w (2 ^ k) new (d.size ∙ l) (λ e h. at e h (xor_lt k e mask h m))
    where
      number : (x : ℕ) → x < 2 ^ k → Dec (x < first) → part new (w * bit_xor x mask) w ≡ all (bit_xor x mask)
      number x h (yes c) = d.kept x c ∙ g x c
      number x h (no c) = d.fresh x (omega arith) h ∙ f x (omega arith)

      at : (e : ℕ) → e < 2 ^ k → bit_xor e mask < 2 ^ k → part new (w * e) w ≡ all e
      at e h b = subst (λ (z : ℕ). part new (w * z) w ≡ all z) (xor-cancel-r e mask) (number (bit_xor e mask) b (dec_lt (bit_xor e mask) first))
