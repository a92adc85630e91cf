-- A node reveals at most one other, so a count is below the number of leaves; and the sums of the loop that counts all challenges. By induction on the nodes, and by the
-- laws of sums.
use Prim.Native.Nat.{ℕ, zero, suc, ◌+◌, ◌-◌, ◌*◌, ◌^◌, ◌≤◌, ◌<◌}
use mathlib.Core.Path.{◌≡◌, refl, ap, ap₂, ◌∙◌}
use mathlib.Core.Bool.{Bool, true, false, cond}
use mathlib.Core.List.{List}
use native.Mathlib.Omega.{arith}
use native.Mathlib.Numerals.{add-one}
use lib.Dec.{leb}
use lib.ListN.{length, length-append}
use Rattle.spec.specs.declared.Shape.{Shape}
use Rattle.spec.specs.Bytes.{tabulate}
use Rattle.spec.specs.Tree.{covered, sibling_to_reveal, revealed_from, revealed, node_count}
use Rattle.spec.specs.Shapes.{shape_ok, leaves, hidden_leaves, planned_count}
use Rattle.planning_laws.proofs.ShapeFacts.{shape-facts, leaves-max, leaves-pos}
use Rattle.enumeration_text.specs.Listed.{open_bits, Listed, challenge_at, listed_at, listed, sum_of, within, total}
use Rattle.enumeration_text.proofs.Sums.{sum_more}

-- ---- a bound

sibling-most : (x y : Bool) (a : ℕ) → length (sibling_to_reveal x y a) ≤ 1
unfolding sibling_to_reveal
sibling-most true true a = omega arith
sibling-most true false a = omega arith
sibling-most false true a = omega arith
sibling-most false false a = omega arith

revealed-most : (c : ℕ → Bool) (n : ℕ) → length (revealed_from c n) ≤ n
unfolding revealed_from
revealed-most c zero = omega arith
revealed-most c (suc n) =
    let ih = revealed-most c n in
    let o = sibling-most (c (2 * n + 1)) (c (2 * n + 2)) n in
    let a = length-append (sibling_to_reveal (c (2 * n + 1)) (c (2 * n + 2)) n) (revealed_from c n) in
    omega arith

pub count-lt : (s : Shape) (ch : List ℕ) → shape_ok s ≡ true → planned_count s ch < 86016
unfolding planned_count node_count revealed
count-lt s ch e =
    let f = shape-facts s e in
    let m = revealed-most (covered (hidden_leaves s ch)) (leaves s - 1) in
    omega (arith, leaves-max s f, leaves-pos s f)

-- ---- line x

pub line-is : (s : Shape) (x n : ℕ) (ch : List ℕ) → ch ≡ challenge_at s x → n ≡ planned_count s ch → record { challenge = ch; count = n } ≡ listed_at s x
unfolding listed_at
line-is s x n ch e p = ap₂ (λ (a : List ℕ) (b : ℕ). let l : Listed = record { challenge = a; count = b } in l) e (p ∙ ap (planned_count s) e)

-- ---- the loop: x challenges are counted

abbrev counted : Shape → ℕ → List Listed
counted s x = tabulate x (listed_at s)

pub record Counted (s : Shape) (x m n : ℕ) : Type 0 where
  pub within : m ≡ within s.t (counted s x)
  pub total : n ≡ total (counted s x)
  pub few : m ≤ x
  pub most : n ≤ 86016 * x

pub counted_none : (s : Shape) → Counted s 0 0 0
unfolding tabulate sum_of within total
counted_none s = record { within = refl; total = refl; few = omega arith; most = omega arith }

pub counted-more : (s : Shape) (x m n count one : ℕ) → Counted s x m n → count ≡ planned_count s (challenge_at s x) → count < 86016
    → one ≡ cond (leb count s.t) 1 0 → one ≤ 1 → Counted s (x + 1) (m + one) (n + count)
unfolding listed_at within total
counted-more s x m n count one c e h o l =
    let w = sum_more (λ l. cond (leb l.count s.t) 1 0) x (listed_at s) in
    let t = sum_more (λ l. l.count) x (listed_at s) in
    let z : one ≡ cond (leb (planned_count s (challenge_at s x)) s.t) 1 0 = o ∙ ap (λ (k : ℕ). cond (leb k s.t) 1 0) e in
    let a = c.within in
    let b = c.total in
    record {
      within = rw add-one (let y : m + one ≡ sum_of (λ l. cond (leb l.count s.t) 1 0) (tabulate (suc x) (listed_at s)) = omega arith in y);
      total = rw add-one (let y : n + count ≡ sum_of (λ l. l.count) (tabulate (suc x) (listed_at s)) = omega arith in y);
      few = omega (arith, c.few);
      most = omega (arith, c.most);
    }

pub counted-all : (s : Shape) (x m n : ℕ) → x ≡ 2 ^ open_bits s → Counted s x m n → (m ≡ within s.t (listed s)) × (n ≡ total (listed s))
unfolding listed
counted-all s x m n e c =
    (c.within ∙ ap (λ (k : ℕ). within s.t (counted s k)) e, c.total ∙ ap (λ (k : ℕ). total (counted s k)) e)
