-- The contract of the exported plan from that of plan: xs are the numbers lent, ys those that come back, `rest` what stands behind them. By the laws of a list that is lent.
use Prim.Native.Nat.{ℕ, ◌*◌, ◌≤◌, ◌<◌}
use mathlib.Core.Path.{◌≡◌, refl, sym, ap, ◌∙◌}
use mathlib.Core.Bool.{Bool, true, false, cond}
use mathlib.Core.List.{List, ◌++◌, append_assoc}
use native.Mathlib.Omega.{arith}
use lib.Dec.{eqb}
use lib.ListN.{length, take, drop, length-append}
use lib.Seq.{take_at}
use borrow.Author.Tests.{eqb-true, leb-true}
use Rattle.spec.specs.declared.Shape.{Shape}
use Rattle.spec.specs.declared.Answer.{Answer}
use Rattle.spec.specs.Shapes.{resolved, shape_ok, grinding_ok, planned, planned_count}
use Rattle.spec.specs.Calls.{fits, count_given, written, nodes_ok, count_with, plan_number, Plan}
use Rattle.spec.specs.HostCalls.{word_bytes, count_slice, with_count, host_list_lengths, HostPlan}
use Rattle.laws.proofs.Words.{count-slice}
use Rattle.planning_laws.proofs.ShapeFacts.{shape-facts}
use Rattle.planning.proofs.Planned.{planned-length}
use Rattle.shape_host.proofs.Lent.{Lent, Right, same_number, right}

module _ (s : Shape) (ch before count xs ys : List ℕ) (r : Answer) (n : ℕ) (l : length xs ≡ n) (f : Lent before count n 513) (o : Plan s ch xs ys r) where
  few : shape_ok (resolved s) ≡ true → (resolved s).t < 513
  few e = (let q = shape-facts (resolved s) e in omega arith)

  abbrev Lengths : List (ℕ × ℕ)
  Lengths = with_count count (host_list_lengths (resolved s) (resolved s).t ch before)

  abbrev later : ℕ
  later = cond (grinding_ok (resolved s) ch) (cond (nodes_ok (resolved s) ch) 0 5) 4

  number : r.number ≡ plan_number (resolved s) ch Lengths
  unfolding plan_number
  number = o.number ∙ same_number (resolved s) ch before count xs n 513 (resolved s).t later l f few

  exact : count_given r.number ≡ true → Right (resolved s) before count n (resolved s).t
  unfolding plan_number
  exact = right (resolved s) ch before count xs n 513 (resolved s).t later l f few r.number number

  pub plan-sized : count_given r.number ≡ true → length count ≡ 4
  plan-sized h = (exact h).counted

  -- with 0 the nodes are within the allowance
  within : r.number ≡ 0 → planned_count (resolved s) ch ≤ (resolved s).t
  unfolding plan_number nodes_ok
  within z = leb-true _ _ (go (shape_ok (resolved s)) (fits Lengths) (grinding_ok (resolved s) ch) (nodes_ok (resolved s) ch) (sym number ∙ z))
    where
      go : (a b c d : Bool) → ◌≡◌ {A = ℕ} (cond a (cond b (cond c (cond d 0 5) 4) 3) 1) 0 → d ≡ true
      go true true true true e = refl
      go true true true false e = absurd (omega arith)
      go true true false d e = absurd (omega arith)
      go true false c d e = absurd (omega arith)
      go false b c d e = absurd (omega arith)

  counted : r.number ≡ 0 → r.count ≡ planned_count (resolved s) ch
  unfolding count_with
  counted z = o.count ∙ rw z refl

  pub plan-room : (rest : List ℕ) → length ys ≡ n → r.number ≡ 0 → (r.count ≤ length (ys ++ rest)) × (4 * r.count ≤ length before)
  plan-room rest m z =
      let q = exact (rw z refl) in
      let c = counted z in
      let w = within z in
      (rw length-append (omega arith), omega arith)

  pub plan-host : (rest after count' : List ℕ) → after ≡ written r.number (word_bytes (take r.count (ys ++ rest)) ++ drop (4 * r.count) before) before
      → count' ≡ count_slice r.number r.count count → HostPlan s ch before after count count' r.number
  plan-host rest after count' w d =
      record { number = number; nodes = go (eqb r.number 0) refl; counted = rw o.count at d ∙ count-slice r.number (planned_count (resolved s) ch) count }
    where
      go : (b : Bool) → eqb r.number 0 ≡ b
          → after ≡ written r.number (word_bytes (planned (resolved s) ch) ++ drop (4 * planned_count (resolved s) ch) before) before
      go false e = rw e (rw e at w)
      go true e =
          let y = rw e at o.nodes in
          let t =
          ap (λ (q : List ℕ). take (planned_count (resolved s) ch) (q ++ rest)) y ∙ ap (take (planned_count (resolved s) ch)) (append_assoc (planned (resolved s) ch) _ rest)
          ∙ take_at (planned (resolved s) ch) _ (planned_count (resolved s) ch) (planned-length (resolved s) ch) in
          rw e (rw (e, counted (eqb-true r.number 0 e)) at w ∙ rw t refl)
