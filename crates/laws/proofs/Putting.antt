-- A part of a buffer that is lent and comes back with other bytes, and strings put one behind another in this way. By the laws of `take` and `++`.
use Prim.Native.Nat.{ℕ, ◌+◌, ◌-◌, ◌≤◌, ◌<◌}
use mathlib.Core.Path.{◌≡◌, sym, ap, ◌∙◌}
use mathlib.Core.List.{List, ◌++◌, append_assoc}
use native.Mathlib.Omega.{arith}
use native.Mathlib.Nat.{add-zero}
use native.Mathlib.Numerals.{add-one}
use native.Mathlib.Decide.{dec_lt}
use lib.ListN.{length, get_or, take, drop, length-append, length-drop, take-append-drop}
use lib.Seq.{take_at, length-take-le, drop-drop}
use Rattle.spec.specs.Bytes.{part, concat}
use Rattle.laws.proofs.Lists.{get_or-part}
use Rattle.laws.proofs.Concat.{part-front, part-after}

-- what stands behind the part at .. at + n
pub behind : (at n : ℕ) (d : List ℕ) → drop (at + n - at) (drop at d) ≡ drop (at + n) d
behind at n d =
    let e : at + n - at ≡ n = omega arith in
    ap (λ (m : ℕ). drop m (drop at d)) e ∙ drop-drop n at d

pub put-take : (at n : ℕ) (d y z : List ℕ) → at ≤ length d → length y ≡ n → take (at + n) (take at d ++ (y ++ z)) ≡ take at d ++ y
put-take at n d y z h l =
    let m : length (take at d) ≡ at = length-take-le at d h in
    ap (take (at + n)) (sym (append_assoc (take at d) y z)) ∙ take_at (take at d ++ y) z (at + n) (length-append (take at d) y ∙ omega arith)

-- string i, of w bytes, put behind the i before it
pub put_next : (f : ℕ → List ℕ) (p : List ℕ) (w i at : ℕ) (d e z : List ℕ) → at ≤ length d → length (f i) ≡ w → take at d ≡ p ++ concat i f
    → e ≡ take at d ++ (f i ++ z) → take (at + w) e ≡ p ++ concat (i + 1) f
unfolding concat
put_next f p w i at d e z h l q r =
    ap (take (at + w)) r ∙ put-take at w d (f i) z h l
    ∙ ap (λ (x : List ℕ). x ++ f i) q
    ∙ append_assoc p (concat i f) (f i)
    ∙ ap (λ (n : ℕ). p ++ concat n f) (sym (add-one i))

-- ---- the part lent at .. at + w comes back as y: what stands there, and elsewhere

abbrev pub put : List ℕ → ℕ → ℕ → List ℕ → List ℕ
put l at w y = take at l ++ (y ++ drop (at + w - at) (drop at l))

module _ (l y : List ℕ) (at w : ℕ) (fits : at + w ≤ length l) (long : length y ≡ w) where
  front-size : length (take at l) ≡ at
  front-size = length-take-le at l (omega arith)

  pub put-size : length (put l at w y) ≡ length l
  put-size = simp (length-append, length-drop) (omega (arith, front-size))

  pub put-here : part (put l at w y) at w ≡ y
  put-here =
      part-after (take at l) (y ++ drop (at + w - at) (drop at l)) at 0 w (omega (arith, front-size))
      ∙ take_at y (drop (at + w - at) (drop at l)) w long

  pub put-before : (q n : ℕ) → q + n ≤ at → part (put l at w y) q n ≡ part l q n
  put-before q n h =
      part-front (take at l) (y ++ drop (at + w - at) (drop at l)) q n (omega (arith, front-size))
      ∙ sym (part-front (take at l) (drop at l) q n (omega (arith, front-size)))
      ∙ ap (λ (x : List ℕ). part x q n) (take-append-drop at l)

  pub put-after : (q n : ℕ) → at + w ≤ q → part (put l at w y) q n ≡ part l q n
  put-after q n h =
      part-after (take at l) (y ++ drop (at + w - at) (drop at l)) q (q - at) n (omega (arith, front-size))
      ∙ part-after y (drop (at + w - at) (drop at l)) (q - at) (q - at - w) n (omega (arith, long))
      ∙ ap (λ (x : List ℕ). part x (q - at - w) n) (behind at w l)
      ∙ ap (take n) (drop-drop (q - at - w) (at + w) l ∙ ap (λ (m : ℕ). drop m l) (let z : at + w + (q - at - w) ≡ q = omega arith in z))

  -- byte by byte
  pub put_byte : (p : ℕ) → at ≤ p → p < at + w → get_or (put l at w y) p 0 ≡ get_or y (p - at) 0
  put_byte p a b =
      ap (λ (n : ℕ). get_or (put l at w y) n 0) (let z : p ≡ at + (p - at) = omega arith in z)
      ∙ sym (get_or-part (put l at w y) at w (p - at) (omega arith))
      ∙ ap (λ (x : List ℕ). get_or x (p - at) 0) put-here

  pub put-other-byte : (p : ℕ) → (at ≤ p → p < at + w → ⊥) → get_or (put l at w y) p 0 ≡ get_or l p 0
  put-other-byte p q = byte (put l at w y) ∙ ap (λ (x : List ℕ). get_or x 0 0) (go (dec_lt p at) (dec_lt p (at + w))) ∙ sym (byte l)
    where
      byte : (x : List ℕ) → get_or x p 0 ≡ get_or (part x p 1) 0 0
      byte x = sym (get_or-part x p 1 0 (omega arith) ∙ ap (λ (n : ℕ). get_or x n 0) (add-zero p))

      go : Dec (p < at) → Dec (p < at + w) → part (put l at w y) p 1 ≡ part l p 1
      go (yes c) d = put-before p 1 (omega arith)
      go (no c) (yes d) = absurd (q (omega arith) d)
      go (no c) (no d) = put-after p 1 (omega arith)
