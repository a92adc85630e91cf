-- What the listing prints of a plan: a refusal depends on the lent list only by its length, and of a plan that is let through at most 512 nodes are listed,
-- each below 100,000 at level 128. By cases on the tests of plan, and by induction on the nodes that reveal.
use Prim.Native.Nat.{ℕ, ◌+◌, ◌*◌, ◌≤◌, ◌<◌}
use mathlib.Core.Path.{◌≡◌, refl, sym, ap, ◌∙◌}
use mathlib.Core.Bool.{Bool, true, false}
use mathlib.Core.List.{List, [], ◌∷◌, ◌++◌, append_assoc}
use native.Mathlib.Omega.{arith}
use lib.ListN.{length, get_or, take, drop}
use lib.Seq.{take_at}
use borrow.Author.Tests.{leb-true, ne_eqb}
use Rattle.spec.specs.declared.Shape.{Shape}
use Rattle.spec.specs.declared.Answer.{Answer}
use Rattle.spec.specs.Bytes.{zeros}
use Rattle.spec.specs.Tree.{revealed}
use Rattle.spec.specs.Shapes.{resolved, level, shape_ok, grinding_ok, planned, planned_count}
use Rattle.spec.specs.Calls.{first_refusal, fits, nodes_ok, count_with, plan_lengths, plan_number, Plan}
use Rattle.laws.proofs.Lists.{length-zeros}
use Rattle.planning_laws.proofs.Revealed.{revealed-below}
use Rattle.planning_laws.proofs.LeafKindFacts.{resolved-level}
use Rattle.planning_laws.proofs.ShapeFacts.{shape-facts, leaves-level}
use Rattle.planning.proofs.Planned.{planned-length}
use Rattle.listing_text.specs.Text.{refused_text, nodes_text}
use Rattle.listing.specs.Listing.{plan_text}

-- ---- the number

abbrev first : Bool → Bool → Bool → Bool → ℕ
first a b c d = first_refusal ((a, 1) ∷ (b, 3) ∷ (c, 4) ∷ (d, 5) ∷ [])

number-cases : (s : Shape) (ch : List ℕ) (lengths : List (ℕ × ℕ)) → (plan_number s ch lengths ≤ 5) × (plan_number s ch lengths ≡ 0 → (shape_ok s ≡ true) × (nodes_ok s ch ≡ true))
unfolding plan_number
number-cases s ch lengths = go (shape_ok s) (fits lengths) (grinding_ok s ch) (nodes_ok s ch)
  where
    go : (a b c d : Bool) → (first a b c d ≤ 5) × (first a b c d ≡ 0 → (a ≡ true) × (d ≡ true))
    go false b c d = (omega arith, λ e. absurd (omega arith))
    go true false c d = (omega arith, λ e. absurd (omega arith))
    go true true false d = (omega arith, λ e. absurd (omega arith))
    go true true true false = (omega arith, λ e. absurd (omega arith))
    go true true true true = (omega arith, λ e. (refl, refl))

-- a list of T numbers, or a shape whose T is too large
number_same : (s : Shape) (ch xs : List ℕ) → (s.t ≤ 512 → length xs ≡ s.t) → plan_number s ch (plan_lengths s ch xs) ≡ plan_number s ch (plan_lengths s ch (zeros s.t))
unfolding plan_number
number_same s ch xs size = go (shape_ok s) refl
  where
    go : (b : Bool) → shape_ok s ≡ b → plan_number s ch (plan_lengths s ch xs) ≡ plan_number s ch (plan_lengths s ch (zeros s.t))
    go false e = rw e refl
    go true e =
        let l : length xs ≡ length (zeros s.t) = size (shape-facts s e).t-max ∙ sym (length-zeros s.t) in
        rw l refl

-- ---- the nodes

planned-lt : (s : Shape) (ch : List ℕ) → shape_ok s ≡ true → level s ≡ 128 → (m : ℕ) → get_or (planned s ch) m 0 < 100000
unfolding planned revealed
planned-lt s ch e l = revealed-below _ _ 100000 (omega (arith, leaves-level s (shape-facts s e)))

-- ---- a plan of the shape s as given, lent the list xs, which is ys afterwards

-- a plan that is let through
pub record Listed (s : Shape) (ch ys : List ℕ) (r : Answer) : Type 0 where
  pub size : length (planned (resolved s) ch) ≡ r.count
  pub most : r.count ≤ 512
  pub front : (rest : List ℕ) → take r.count (ys ++ rest) ≡ planned (resolved s) ch
  pub small : (m : ℕ) → get_or (planned (resolved s) ch) m 0 < 100000
  pub text : nodes_text (planned (resolved s) ch) (length (planned (resolved s) ch)) ≡ plan_text (resolved s) ch

pub record Printed (s : Shape) (ch ys : List ℕ) (r : Answer) : Type 0 where
  pub small : r.number ≤ 5
  pub refused : (r.number ≡ 0 → ⊥) → refused_text r.number ≡ plan_text (resolved s) ch
  pub listed : r.number ≡ 0 → Listed s ch ys r

pub printed : (s : Shape) (ch xs ys : List ℕ) (r : Answer) → Plan s ch xs ys r → s.level ≡ 128 → ((resolved s).t ≤ 512 → length xs ≡ (resolved s).t) → Printed s ch ys r
unfolding plan_text count_with nodes_ok level
printed s ch xs ys r p l size =
    record {
      small = rw p.number (number-cases (resolved s) ch (plan_lengths (resolved s) ch xs)).0;
      refused = λ h. rw (same, ne_eqb r.number 0 h) refl;
      listed =
          λ e.
          let q = (number-cases (resolved s) ch (plan_lengths (resolved s) ch xs)).1 (sym p.number ∙ e) in
          let count : r.count ≡ n = rw e at p.count in
          let long : length nodes ≡ r.count = planned-length (resolved s) ch ∙ sym count in
          let w : ys ≡ nodes ++ drop n xs = rw e at p.nodes in
          record {
            size = long;
            most = omega (arith, leb-true n (resolved s).t q.1, (shape-facts (resolved s) q.0).t-max);
            front = λ rest. rw (w, append_assoc) (take_at nodes (drop n xs ++ rest) r.count long);
            small = planned-lt (resolved s) ch q.0 (resolved-level s ∙ l);
            text = rw (same, e) (ap (nodes_text nodes) (planned-length (resolved s) ch));
          };
    }
  where
    nodes : List ℕ
    nodes = planned (resolved s) ch

    n : ℕ
    n = planned_count (resolved s) ch

    same : plan_number (resolved s) ch (plan_lengths (resolved s) ch (zeros (resolved s).t)) ≡ r.number
    same = sym (p.number ∙ number_same (resolved s) ch xs size)
