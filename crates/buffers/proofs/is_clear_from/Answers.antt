-- `all` looks at each byte of the part: where one is not 0 the test is false, by induction on the bytes.
use mathlib.Core.Path.{◌≡◌, refl, sym, ap, ◌∙◌}
use mathlib.Core.Bool.{Bool, true, false, ◌&&◌}
use mathlib.Core.List.{List, [], ◌∷◌}
use Prim.Native.Nat.{ℕ, zero, suc, ◌-◌, ◌<◌}
use native.Mathlib.Omega.{arith}
use borrow.Author.Rules.{rules}
use borrow.Author.Tests.{tests, eq-eqb, ne_eqb}
use lib.Dec.{eqb}
use lib.ListN.{length, get_or, drop, length-drop}
use lib.Seq.{take_all}
use Rattle.std.proofs.lemmas.Iterator.{cases_from_all, YieldsList-from_slice}
use Rattle.std.proofs.Math.Bool.{and-false}
use Rattle.std.specs.Bool.{MatchBool}
use Rattle.std.specs.List.{AllWithin, HoldsAt}
use Rattle.spec.specs.Bytes.{all_zero}
use Rattle.buffers.proofs.is_clear_from.Goals as goal

all-zero : (xs : List ℕ) → ((k : ℕ) → k < length xs → get_or xs k 0 ≡ 0) → all_zero xs ≡ true
unfolding all_zero
all-zero [] h = refl
all-zero (x ∷ xs) h = ap (λ (b : Bool). b && all_zero xs) (eq-eqb x 0 (h 0 (omega arith))) ∙ all-zero xs (λ k l. h (suc k) (omega arith))

not-zero : (xs : List ℕ) (k : ℕ) → k < length xs → (get_or xs k 0 ≡ 0 → ⊥) → all_zero xs ≡ false
unfolding all_zero
not-zero [] k l h = absurd (omega arith)
not-zero (x ∷ xs) zero l h = ap (λ (b : Bool). b && all_zero xs) (ne_eqb x 0 h)
not-zero (x ∷ xs) (suc k) l h = ap (λ (b : Bool). eqb x 0 && b) (not-zero xs k (omega arith) h) ∙ and-false (eqb x 0)

decided : (r : Bool) (xs : List ℕ) → MatchBool r (AllWithin (λ x. x ≡ 0) xs 0 (length xs)) ((k : ℕ) × (k < length xs) × HoldsAt (λ x. x ≡ 0 → ⊥) xs k) → r ≡ all_zero xs
decided true xs a = sym (all-zero xs (λ k l. a k 0 (omega arith) l))
decided false xs a = sym (not-zero xs a.0 a.1 (a.2 0))

pub returns : goal.returns
returns c =
    let part = drop c.args.at c.args.xs.now in
    let e = c.iter.ensures.rest ∙ take_all (length c.args.xs.now - c.args.at) part (simp length-drop (omega arith)) in
    decided _ part
    (cases_from_all _ _ _ (λ x. x ≡ 0) (λ x. x ≡ 0 → ⊥) c.all.ensures.ran (YieldsList-from_slice part e) (λ x q k. search (rules, tests)) (λ x q k. search (rules, tests)))
