-- The records that are the contracts of decode and plan, refused and written. s is the shape as given and t the resolved one, ch the challenge, xs the lent list, r the
-- answer.
use Prim.Native.Nat.{ℕ, ◌≤◌}
use mathlib.Core.Path.{◌≡◌, refl, sym, ap, ◌∙◌}
use mathlib.Core.List.{List, ◌++◌}
use native.Mathlib.Omega.{arith}
use lib.ListN.{length, take, drop}
use borrow.Author.Tests.{ne_eqb}
use Rattle.spec.specs.declared.Shape.{Shape}
use Rattle.spec.specs.declared.Answer.{Answer}
use Rattle.spec.specs.Shapes.{resolved, hidden_indices, planned, planned_count}
use Rattle.spec.specs.Calls.{decode_lengths, decode_number, Decode, plan_lengths, plan_number, Plan}
use Rattle.planning_laws.proofs.ShapeFacts.{shape-facts}
use Rattle.refusals.specs.Numbers.{Answered}
use Rattle.refusals.proofs.Numbers.{plan-accepted}

module _ (s t : Shape) (e : t ≡ resolved s) (ch xs : List ℕ) (r : Answer) where
  module _ (d : r.number ≡ decode_number t ch (decode_lengths t ch xs)) (n : r.count ≡ 0) where
    pub decode-refused : (r.number ≡ 0 → ⊥) → Decode s ch xs xs r
    decode-refused h = record { number = rw e at d; count = n; indices = rw (ne_eqb r.number 0 h) refl }

    pub decode-written : (ys : List ℕ) → r.number ≡ 0 → ys ≡ hidden_indices t ch → Decode s ch xs ys r
    decode-written ys z w = record { number = rw e at d; count = n; indices = rw z (rw e at w) }

  module _ (a : Answered (plan_number t ch (plan_lengths t ch xs)) (planned_count t ch) r) where
    pub plan-refused : (r.number ≡ 0 → ⊥) → Plan s ch xs xs r
    plan-refused h = record { number = rw e at a.0; count = rw e at a.1; nodes = rw (ne_eqb r.number 0 h) refl }

    pub plan-written : (ys list : List ℕ) → r.number ≡ 0 → r.count ≡ planned_count t ch → take r.count list ≡ planned t ch → ys ≡ take r.count list ++ drop r.count xs → Plan s ch xs ys r
    plan-written ys list z c l w =
        let new : ys ≡ planned t ch ++ drop (planned_count t ch) xs = w ∙ ap (λ (zs : List ℕ). zs ++ drop r.count xs) l ∙ ap (λ (m : ℕ). planned t ch ++ drop m xs) c in
        record { number = rw e at a.0; count = rw e at a.1; nodes = rw z (rw e at new) }

    -- the lent list and the call's own, which has 512 places, have room for what is copied
    pub plan-fits : r.number ≡ 0 → (r.count ≤ length xs) × (r.count ≤ 512)
    plan-fits h =
        let q = plan-accepted t ch r (plan_lengths t ch xs) a h in
        let f = shape-facts t q.0 in
        let list = q.1.1.0 in
        let within = q.3 in
        (omega arith, omega arith)
