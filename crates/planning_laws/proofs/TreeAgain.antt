-- A tree made again of what an opening gives: nodes that are not covered are those of the first tree, covered ones are zeros. Over any tree of n inner nodes, any rule of what is covered, and any source of the
-- revealed nodes. By induction on the nodes expanded: the children of a covered node are revealed or covered, those of any other node come from it in both trees.
use Prim.Native.Nat.{ℕ, zero, suc, ◌+◌, ◌*◌, ◌≤◌, ◌<◌}
use mathlib.Core.Path.{◌≡◌, refl, sym, ap, ◌∙◌, subst}
use mathlib.Core.Bool.{Bool, true, false, cond}
use mathlib.Core.List.{List, ◌++◌}
use native.Mathlib.Omega.{arith}
use native.Mathlib.Nat.{mul-zero}
use native.Mathlib.Decide.{dec_lt, ℕ_discrete}
use lib.ListN.{length, length-append}
use Rattle.spec.specs.Bytes.{part, zeros}
use Rattle.spec.specs.Tree.{expand_tree}
use Rattle.laws.proofs.Conjunctions.{contrary}
use Rattle.laws.proofs.Lists.{length_part, length-zeros}
use Rattle.laws.proofs.Concat.{part-front, part-after, part-whole, mul-within}
use Rattle.planning_laws.proofs.ExpandTree.{expand-length, expand-front, expand-left, expand-right}

-- a child of a covered node, and the children of a node, in the second tree
abbrev pub pick : ℕ → (ℕ → Bool) → (ℕ → List ℕ) → ℕ → List ℕ
pick w hides given c = cond (hides c) (zeros w) (given c)

abbrev pub again : ℕ → (ℕ → Bool) → (ℕ → List ℕ) → (ℕ → List ℕ → List ℕ) → ℕ → List ℕ → List ℕ
again w hides given kids a x = cond (hides a) (pick w hides given (2 * a + 1) ++ pick w hides given (2 * a + 2)) (kids a x)

-- what is known of the first tree, of the covered nodes and of what is given
pub record Revealing (w N : ℕ) (root : List ℕ) (kids : ℕ → List ℕ → List ℕ) (hides : ℕ → Bool) (given : ℕ → List ℕ) : Type 0 where
  pub root-long : length root ≡ w
  pub kids-long : (a : ℕ) → a < N → (x : List ℕ) → length (kids a x) ≡ 2 * w
  pub root-hides : hides 0 ≡ true
  pub above-left : (a : ℕ) → a < N → hides (2 * a + 1) ≡ true → hides a ≡ true
  pub above-right : (a : ℕ) → a < N → hides (2 * a + 2) ≡ true → hides a ≡ true
  pub left-given : (a : ℕ) → a < N → hides a ≡ true → hides (2 * a + 1) ≡ false → given (2 * a + 1) ≡ part (expand_tree w root kids N) (w * (2 * a + 1)) w
  pub right-given : (a : ℕ) → a < N → hides a ≡ true → hides (2 * a + 2) ≡ false → given (2 * a + 2) ≡ part (expand_tree w root kids N) (w * (2 * a + 2)) w

module _ (w N : ℕ) (root : List ℕ) (kids : ℕ → List ℕ → List ℕ) (hides : ℕ → Bool) (given : ℕ → List ℕ) (k : Revealing w N root kids hides given) where
  abbrev Signed : ℕ → List ℕ
  Signed n = expand_tree w root kids n

  abbrev Again : ℕ → List ℕ → List ℕ
  Again = again w hides given kids

  abbrev Checked : ℕ → List ℕ
  Checked n = expand_tree w (zeros w) (again w hides given kids) n

  abbrev Node : List ℕ → ℕ → List ℕ
  Node t c = part t (w * c) w

  abbrev Pick : ℕ → List ℕ
  Pick = pick w hides given

  node-long : (c : ℕ) → c < 2 * N + 1 → length (Node (Signed N) c) ≡ w
  node-long c h =
      let a = expand-length w root kids N k.root-long k.kids-long N (omega arith) in
      let b = mul-within w c (2 * N + 1) h in
      length_part (Signed N) (w * c) w (omega arith)

  pick-long : (c : ℕ) → c < 2 * N + 1 → (hides c ≡ false → given c ≡ Node (Signed N) c) → length (Pick c) ≡ w
  pick-long c h m = go (hides c) refl
    where
      go : (b : Bool) → hides c ≡ b → length (cond b (zeros w) (given c)) ≡ w
      go true e = length-zeros w
      go false e = ap length (m e) ∙ node-long c h

  left-long : (a : ℕ) → a < N → hides a ≡ true → length (Pick (2 * a + 1)) ≡ w
  left-long a h e = pick-long (2 * a + 1) (omega arith) (k.left-given a h e)

  right-long : (a : ℕ) → a < N → hides a ≡ true → length (Pick (2 * a + 2)) ≡ w
  right-long a h e = pick-long (2 * a + 2) (omega arith) (k.right-given a h e)

  pub again-long : (a : ℕ) → a < N → (x : List ℕ) → length (Again a x) ≡ 2 * w
  again-long a h x = go (hides a) refl
    where
      go : (b : Bool) → hides a ≡ b → length (cond b (Pick (2 * a + 1) ++ Pick (2 * a + 2)) (kids a x)) ≡ 2 * w
      go true e = (let p = left-long a h e in let q = right-long a h e in simp length-append (omega arith))
      go false e = k.kids-long a h x

  signed-front : (n m c : ℕ) → n ≤ m → m ≤ N → c < 2 * n + 1 → Node (Signed m) c ≡ Node (Signed n) c
  signed-front = expand-front w root kids N k.root-long k.kids-long

  checked-front : (n m c : ℕ) → n ≤ m → m ≤ N → c < 2 * n + 1 → Node (Checked m) c ≡ Node (Checked n) c
  checked-front = expand-front w (zeros w) Again N (length-zeros w) again-long

  -- the children of a covered node
  left-pick : (n : ℕ) (x : List ℕ) → n < N → hides n ≡ true → part (Again n x) 0 w ≡ Pick (2 * n + 1)
  left-pick n x h e =
      let p = left-long n h e in
      ap (λ (b : Bool). part (cond b (Pick (2 * n + 1) ++ Pick (2 * n + 2)) (kids n x)) 0 w) e
      ∙ part-front (Pick (2 * n + 1)) (Pick (2 * n + 2)) 0 w (omega arith)
      ∙ part-whole (Pick (2 * n + 1)) w p

  right-pick : (n : ℕ) (x : List ℕ) → n < N → hides n ≡ true → part (Again n x) w w ≡ Pick (2 * n + 2)
  right-pick n x h e =
      let p = left-long n h e in
      ap (λ (b : Bool). part (cond b (Pick (2 * n + 1) ++ Pick (2 * n + 2)) (kids n x)) w w) e
      ∙ part-after (Pick (2 * n + 1)) (Pick (2 * n + 2)) w 0 w (omega arith)
      ∙ part-whole (Pick (2 * n + 2)) w (right-long n h e)

  shown : (c : ℕ) → hides c ≡ false → Pick c ≡ given c
  shown c d = ap (λ (b : Bool). cond b (zeros w) (given c)) d

  blank : (c : ℕ) → hides c ≡ true → Pick c ≡ zeros w
  blank c d = ap (λ (b : Bool). cond b (zeros w) (given c)) d

  bare : (n : ℕ) (x : List ℕ) → hides n ≡ false → Again n x ≡ kids n x
  bare n x e = ap (λ (b : Bool). cond b (Pick (2 * n + 1) ++ Pick (2 * n + 2)) (kids n x)) e

  left-same : (n : ℕ) → n < N → (hides n ≡ false → Node (Checked n) n ≡ Node (Signed n) n) → hides (2 * n + 1) ≡ false → Node (Checked (suc n)) (2 * n + 1) ≡ Node (Signed (suc n)) (2 * n + 1)
  left-same n h ih d = expand-left w (zeros w) Again N (length-zeros w) again-long n (omega arith) ∙ go (hides n) refl
    where
      go : (b : Bool) → hides n ≡ b → part (Again n (Node (Checked n) n)) 0 w ≡ Node (Signed (suc n)) (2 * n + 1)
      go true e = left-pick n (Node (Checked n) n) h e ∙ shown (2 * n + 1) d ∙ k.left-given n h e d ∙ signed-front (suc n) N (2 * n + 1) h (omega arith) (omega arith)
      go false e =
          ap (λ (l : List ℕ). part l 0 w) (bare n (Node (Checked n) n) e ∙ ap (kids n) (ih e))
          ∙ sym (expand-left w root kids N k.root-long k.kids-long n (omega arith))

  right-same : (n : ℕ) → n < N → (hides n ≡ false → Node (Checked n) n ≡ Node (Signed n) n) → hides (2 * n + 2) ≡ false → Node (Checked (suc n)) (2 * n + 2) ≡ Node (Signed (suc n)) (2 * n + 2)
  right-same n h ih d = expand-right w (zeros w) Again N (length-zeros w) again-long n (omega arith) ∙ go (hides n) refl
    where
      go : (b : Bool) → hides n ≡ b → part (Again n (Node (Checked n) n)) w w ≡ Node (Signed (suc n)) (2 * n + 2)
      go true e = right-pick n (Node (Checked n) n) h e ∙ shown (2 * n + 2) d ∙ k.right-given n h e d ∙ signed-front (suc n) N (2 * n + 2) h (omega arith) (omega arith)
      go false e =
          ap (λ (l : List ℕ). part l w w) (bare n (Node (Checked n) n) e ∙ ap (kids n) (ih e))
          ∙ sym (expand-right w root kids N k.root-long k.kids-long n (omega arith))

  pub nodes-same : (n : ℕ) → n ≤ N → (c : ℕ) → c < 2 * n + 1 → hides c ≡ false → Node (Checked n) c ≡ Node (Signed n) c
  nodes-same zero h c l d = contrary k.root-hides (ap hides (let z : 0 ≡ c = omega arith in z) ∙ d)
  nodes-same (suc n) h c l d = go (dec_lt c (2 * n + 1)) (ℕ_discrete c (2 * n + 1)) (nodes-same n (omega arith))
    where
      go : Dec (c < 2 * n + 1) → Dec (c ≡ 2 * n + 1) → ((c : ℕ) → c < 2 * n + 1 → hides c ≡ false → Node (Checked n) c ≡ Node (Signed n) c) → Node (Checked (suc n)) c ≡ Node (Signed (suc n)) c
      go (yes m) e ih = checked-front n (suc n) c (omega arith) h m ∙ ih c m d ∙ sym (signed-front n (suc n) c (omega arith) h m)
      go (no m) (yes e) ih = subst (λ (m : ℕ). Node (Checked (suc n)) m ≡ Node (Signed (suc n)) m) (sym e) (left-same n h (ih n (omega arith)) (ap hides (sym e) ∙ d))
      go (no m) (no e) ih =
          let g : c ≡ 2 * n + 2 = omega arith in
          subst (λ (m : ℕ). Node (Checked (suc n)) m ≡ Node (Signed (suc n)) m) (sym g) (right-same n h (ih n (omega arith)) (ap hides (sym g) ∙ d))

  -- ---- covered nodes are zeros

  left-zero : (n : ℕ) → n < N → hides (2 * n + 1) ≡ true → Node (Checked (suc n)) (2 * n + 1) ≡ zeros w
  left-zero n h d =
      expand-left w (zeros w) Again N (length-zeros w) again-long n (omega arith) ∙ left-pick n (Node (Checked n) n) h (k.above-left n h d) ∙ blank (2 * n + 1) d

  right_zero : (n : ℕ) → n < N → hides (2 * n + 2) ≡ true → Node (Checked (suc n)) (2 * n + 2) ≡ zeros w
  right_zero n h d =
      expand-right w (zeros w) Again N (length-zeros w) again-long n (omega arith) ∙ right-pick n (Node (Checked n) n) h (k.above-right n h d) ∙ blank (2 * n + 2) d

  pub nodes-zero : (n : ℕ) → n ≤ N → (c : ℕ) → c < 2 * n + 1 → hides c ≡ true → Node (Checked n) c ≡ zeros w
  unfolding expand_tree
  nodes-zero zero h c l d =
      let z : c ≡ 0 = omega arith in
      ap (λ (n : ℕ). part (zeros w) n w) (ap (λ (n : ℕ). w * n) z ∙ mul-zero w) ∙ part-whole (zeros w) w (length-zeros w)
  nodes-zero (suc n) h c l d = go (dec_lt c (2 * n + 1)) (ℕ_discrete c (2 * n + 1)) (nodes-zero n (omega arith))
    where
      go : Dec (c < 2 * n + 1) → Dec (c ≡ 2 * n + 1) → ((c : ℕ) → c < 2 * n + 1 → hides c ≡ true → Node (Checked n) c ≡ zeros w) → Node (Checked (suc n)) c ≡ zeros w
      go (yes m) e ih = checked-front n (suc n) c (omega arith) h m ∙ ih c m d
      go (no m) (yes e) ih = subst (λ (m : ℕ). Node (Checked (suc n)) m ≡ zeros w) (sym e) (left-zero n h (ap hides (sym e) ∙ d))
      go (no m) (no e) ih =
          let g : c ≡ 2 * n + 2 = omega arith in
          subst (λ (m : ℕ). Node (Checked (suc n)) m ≡ zeros w) (sym g) (right_zero n h (ap hides (sym g) ∙ d))
