-- Xoring into a buffer byte by byte, part by part, and into columns one after another; what is added one after another; and the columns while rows are added in
-- the order of their numbers. By comparing the byte asked for with the place that changes, and composing xors.
use mathlib.Core.Path.{◌≡◌, refl, sym, ap, ap₂, ◌∙◌, subst}
use mathlib.Core.List.{List}
use Prim.Native.Nat.{ℕ, ◌+◌, ◌-◌, ◌*◌, ◌≤◌, ◌<◌}
use native.Mathlib.Decide.{dec_lt, ℕ_discrete}
use native.Mathlib.Omega.{arith}
use lib.Bits.{bit_xor, xor_zero_r}
use lib.ListN.{length, get_or, set, length-set}
use lib.Seq.{get_or-set_same, get_or-set_other}
use Rattle.spec.specs.Bytes.{part}
use Rattle.laws.proofs.Lists.{length_part, get_or-part}
use Rattle.laws.proofs.Putting.{put, put-size, put_byte, put-other-byte}
use Rattle.laws.proofs.Concat.{mul-within}
use Rattle.columns.specs.Columns.{Xored, Added, Done}

-- ---- a part of a buffer

pub behind-start : (at i : ℕ) → at + i - at ≡ i
behind-start at i = omega arith

pub xored-none : (lo : ℕ) (f : ℕ → ℕ) (old : List ℕ) → Xored lo (lo + 0) f old old
xored-none lo f old = record { size = refl; inside = λ p a b. absurd (omega arith); outside = λ p q. refl }

-- one byte more
pub xored-more : (lo i v : ℕ) (f : ℕ → ℕ) (old mid : List ℕ) → lo + i < length mid → f (lo + i) ≡ v → Xored lo (lo + i) f old mid
    → Xored lo (lo + (i + 1)) f old (set mid (lo + i) (bit_xor (get_or mid (lo + i) 0) v))
xored-more lo i v f old mid h e r =
    record {
      size = length-set mid (lo + i) w ∙ r.size;
      inside = λ p a b. go p a b (ℕ_discrete p (lo + i));
      outside = λ p q. get_or-set_other mid (lo + i) p w 0 (λ z. q (omega arith) (omega arith)) ∙ r.outside p (λ a b. q a (omega arith));
    }
  where
    w : ℕ
    w = bit_xor (get_or mid (lo + i) 0) v

    go : (p : ℕ) → lo ≤ p → p < lo + (i + 1) → Dec (p ≡ lo + i) → get_or (set mid (lo + i) w) p 0 ≡ bit_xor (get_or old p 0) (f p)
    go p a b (yes q) =
        subst (λ (x : ℕ). get_or (set mid (lo + i) w) x 0 ≡ bit_xor (get_or old x 0) (f x)) (sym q)
        (get_or-set_same mid (lo + i) w 0 h ∙ ap₂ bit_xor (r.outside (lo + i) (λ c d. omega arith)) (sym e))
    go p a b (no q) = get_or-set_other mid (lo + i) p w 0 q ∙ r.inside p a (omega arith)

-- the same bytes, given in another way
pub xored-same : (lo hi end : ℕ) (f g : ℕ → ℕ) (old new : List ℕ) → hi ≡ end → ((p : ℕ) → lo ≤ p → p < end → g p ≡ f p) → Xored lo hi g old new → Xored lo end f old new
xored-same lo hi end f g old new h e r =
    record {
      size = r.size;
      inside = λ p a b. r.inside p a (omega arith) ∙ ap (bit_xor (get_or old p 0)) (e p a b);
      outside = λ p q. r.outside p (λ a b. q a (omega arith));
    }

-- a part more
pub xored-then : (lo at hi : ℕ) (f : ℕ → ℕ) (old mid new : List ℕ) → lo ≤ at → at ≤ hi → Xored lo at f old mid → Xored at hi f mid new → Xored lo hi f old new
xored-then lo at hi f old mid new hl hh r s =
    record {
      size = s.size ∙ r.size;
      inside = λ p a b. go p a b (dec_lt p at);
      outside = λ p q. s.outside p (λ a b. q (omega arith) b) ∙ r.outside p (λ a b. q a (omega arith));
    }
  where
    go : (p : ℕ) → lo ≤ p → p < hi → Dec (p < at) → get_or new p 0 ≡ bit_xor (get_or old p 0) (f p)
    go p a b (yes c) = s.outside p (λ x y. omega arith) ∙ r.inside p a c
    go p a b (no c) = s.inside p (omega arith) b ∙ ap (λ (x : ℕ). bit_xor x (f p)) (r.outside p (λ x y. omega arith))

-- a part that is lent
pub xored-lent : (at w : ℕ) (f : ℕ → ℕ) (l y : List ℕ) → at + w ≤ length l → Xored 0 (length (part l at (at + w - at))) f (part l at (at + w - at)) y
    → Xored at (at + w) (λ p. f (p - at)) l (put l at w y)
xored-lent at w f l y h r =
    record {
      size = put-size l y at w h long;
      inside = λ p a b.
          put_byte l y at w h long p a b
          ∙ r.inside (p - at) (omega arith) (omega (arith, size))
          ∙ ap (λ (x : ℕ). bit_xor x (f (p - at)))
          (get_or-part l at (at + w - at) (p - at) (omega arith) ∙ ap (λ (n : ℕ). get_or l n 0) (let z : at + (p - at) ≡ p = omega arith in z));
      outside = λ p q. put-other-byte l y at w h long p q;
    }
  where
    size : length (part l at (at + w - at)) ≡ w
    size = length_part l at (at + w - at) (omega arith) ∙ behind-start at w

    long : length y ≡ w
    long = r.size ∙ size

-- ---- the first columns

pub done_none : (b : ℕ) (f : ℕ → ℕ → ℕ) (old : List ℕ) → Done b 0 f old old
done_none b f old = record { first = record { size = refl; known = λ i p hi hp. absurd (omega arith) }; rest = λ i p hi hp. refl }

-- one more column
pub done_more : (b j : ℕ) (f : ℕ → ℕ → ℕ) (g : ℕ → ℕ) (old mid new : List ℕ) → ((p : ℕ) → p < b → g (b * j + p) ≡ f j p)
    → Done b j f old mid → Xored (b * j) (b * j + b) g mid new → Done b (j + 1) f old new
done_more b j f g old mid new e r x =
    record {
      first = record { size = x.size ∙ r.first.size; known = λ i p hi hp. go i p hi hp (ℕ_discrete i j) };
      rest = λ i p hi hp. x.outside (b * i + p) (λ a c. omega (arith, mul-within b j i (omega arith))) ∙ r.rest i p (omega arith) hp;
    }
  where
    go : (i p : ℕ) → i < j + 1 → p < b → Dec (i ≡ j) → get_or new (b * i + p) 0 ≡ bit_xor (get_or old (b * i + p) 0) (f i p)
    go i p hi hp (yes q) =
        subst (λ (y : ℕ). get_or new (b * y + p) 0 ≡ bit_xor (get_or old (b * y + p) 0) (f y p)) (sym q)
        (x.inside (b * j + p) (omega arith) (omega arith) ∙ ap₂ bit_xor (r.rest j p (omega arith) hp) (e p hp))
    go i p hi hp (no q) = x.outside (b * i + p) (λ a c. omega (arith, mul-within b i j (omega arith))) ∙ r.first.known i p (omega arith) hp

-- one more column, to which zeros are added
pub done-skip : (b j : ℕ) (f : ℕ → ℕ → ℕ) (old new : List ℕ) → ((p : ℕ) → p < b → f j p ≡ 0) → Done b j f old new → Done b (j + 1) f old new
done-skip b j f old new e r =
    record {
      first = record { size = r.first.size; known = λ i p hi hp. go i p hi hp (ℕ_discrete i j) };
      rest = λ i p hi hp. r.rest i p (omega arith) hp;
    }
  where
    go : (i p : ℕ) → i < j + 1 → p < b → Dec (i ≡ j) → get_or new (b * i + p) 0 ≡ bit_xor (get_or old (b * i + p) 0) (f i p)
    go i p hi hp (yes q) =
        subst (λ (y : ℕ). get_or new (b * y + p) 0 ≡ bit_xor (get_or old (b * y + p) 0) (f y p)) (sym q)
        (r.rest j p (omega arith) hp ∙ sym (ap (bit_xor (get_or old (b * j + p) 0)) (e p hp) ∙ xor_zero_r (get_or old (b * j + p) 0)))
    go i p hi hp (no q) = r.first.known i p (omega arith) hp

-- ---- what is added, one after another

pub added_none : (b k : ℕ) (old : List ℕ) (f : ℕ → ℕ → ℕ) → ((j p : ℕ) → j < k → p < b → f j p ≡ 0) → Added b k f old old
added_none b k old f h = record { size = refl; known = λ j p hj hp. sym (ap (bit_xor (get_or old (b * j + p) 0)) (h j p hj hp) ∙ xor_zero_r (get_or old (b * j + p) 0)) }

pub added-same : (b k : ℕ) (f g : ℕ → ℕ → ℕ) (old new : List ℕ) → ((j p : ℕ) → j < k → p < b → f j p ≡ g j p) → Added b k f old new → Added b k g old new
added-same b k f g old new h r =
    record { size = r.size; known = λ j p hj hp. r.known j p hj hp ∙ ap (bit_xor (get_or old (b * j + p) 0)) (h j p hj hp) }
