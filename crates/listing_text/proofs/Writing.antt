-- Texts put one after another: nothing, one byte, one text behind another.
use Prim.Native.Nat.{ℕ, ◌+◌, ◌≤◌, ◌<◌}
use mathlib.Core.Path.{◌≡◌, refl, sym, ap, ◌∙◌}
use mathlib.Core.List.{List, [], ◌∷◌, ◌++◌, append_assoc, append-nil}
use native.Mathlib.Omega.{arith}
use native.Mathlib.Numerals.{add-one}
use lib.ListN.{length, take, drop, set, length-append}
use lib.Seq.{take-suc-set, drop-set-lt, drop-drop}
use Rattle.laws.proofs.Parts.{taken-whole}
use Rattle.listing_text.specs.Put.{Put}

pub put-none : (at : ℕ) (out : List ℕ) → Put [] at out out at
put-none at out = record { end = omega arith; front = sym (append-nil (take at out)); rest = refl }

pub put_one : (b at : ℕ) (out : List ℕ) → at < length out → Put (b ∷ []) at out (set out at b) (at + 1)
put_one b at out h = record { end = refl; front = rw (add-one, take-suc-set) refl; rest = drop-set-lt (at + 1) out at b (omega arith) }

-- what is the same from m on is the same from a later place on
pub rest-further : (n m r : ℕ) (b a : List ℕ) → r ≡ m + n → drop m b ≡ drop m a → drop r b ≡ drop r a
rest-further n m r b a e h =
    ap (λ (k : ℕ). drop k b) e ∙ sym (drop-drop n m b) ∙ ap (drop n) h ∙ drop-drop n m a ∙ sym (ap (λ (k : ℕ). drop k a) e)

pub put_next : {t u a b c : List ℕ} {at m r : ℕ} → Put t at a b m → Put u m b c r → Put (t ++ u) at a c r
put_next {t} {u} {a} {b} {c} {at} {m} {r} p q =
    record {
      end = omega (arith, p.end, q.end, length-append t u);
      front = q.front ∙ ap (λ (xs : List ℕ). xs ++ u) p.front ∙ append_assoc (take at a) t u;
      rest = q.rest ∙ rest-further (length u) m r b a q.end p.rest;
    }

-- a text at the front
pub put_front : {text before after : List ℕ} {r : ℕ} → Put text 0 before after r → (r ≤ length after) × (take r after ≡ text) × (drop r after ≡ drop r before)
put_front {text} {before} {after} {r} p = (taken-whole r after (omega (arith, ap length p.front, p.end)), p.front, p.rest)
