-- The two children of a node, written one after the other, and the slots that they take. Of a listed node one child at least is listed, so one slot at most is
-- read. By cases on the children.
use Prim.Native.Nat.{ℕ, ◌+◌, ◌-◌, ◌*◌, ◌≤◌}
use mathlib.Core.Path.{◌≡◌, refl, sym, ap, ap₂, ◌∙◌}
use mathlib.Core.Bool.{Bool, true, false, ◌||◌, cond}
use mathlib.Core.List.{List, ◌++◌, append_assoc}
use native.Mathlib.Omega.{arith}
use native.Mathlib.Numerals.{add-one}
use lib.ListN.{length, take, drop, length-append}
use lib.Seq.{drop_at, drop-drop, length-take-le}
use Rattle.spec.specs.declared.Shape.{Shape}
use Rattle.spec.specs.Bytes.{part, zeros}
use Rattle.spec.specs.Tree.{sibling_to_reveal, revealed_from}
use Rattle.spec.specs.Shapes.{node_bytes}
use Rattle.spec.specs.Primitives.{faest}
use Rattle.spec.specs.Leaves.{children}
use Rattle.laws.proofs.Conjunctions.{contrary}
use Rattle.laws.proofs.Lists.{length-zeros, length_part}
use Rattle.laws.proofs.Putting.{behind, put-take}
use Rattle.planning_laws.proofs.Revealed.{revealed-longer}
use Rattle.laws.proofs.Concat.{mul-within}
use Rattle.tree.proofs.Growing.{node-place, length-children}
use Rattle.verifier_tree.specs.ByNodes.{listed, read_before, read_with, node_by, children_by}

-- ---- parts of a buffer

-- a part of w bytes that is lent and comes back as zeros
pub put-zeros : (at w : ℕ) (d y : List ℕ) → at + w ≤ length d → y ≡ zeros (length (part d at (at + w - at)) - 0)
    → take at d ++ (y ++ drop (at + w - at) (drop at d)) ≡ take at d ++ (zeros w ++ drop (at + w) d)
put-zeros at w d y h e =
    let m : at + w - at ≡ w = omega arith in
    let l : length (part d at (at + w - at)) - 0 ≡ w = (let z = ap (λ (n : ℕ). length (part d at n)) m ∙ length_part d at w h in omega arith) in
    ap₂ (λ (x z : List ℕ). take at d ++ (x ++ z)) (e ∙ ap zeros l) (behind at w d)

-- the same at the front
pub put-zeros-front : (w : ℕ) (d y : List ℕ) → w ≤ length d → y ≡ zeros (length (part d 0 (w - 0)) - 0) → take 0 d ++ (y ++ drop (w - 0) (drop 0 d)) ≡ zeros w ++ drop w d
put-zeros-front w d y h e =
    let m : w - 0 ≡ w = omega arith in
    let l : length (part d 0 (w - 0)) - 0 ≡ w = (let z = ap (λ (n : ℕ). length (part d 0 n)) m ∙ length_part d 0 w (omega arith) in omega arith) in
    ap₂ (λ (x : List ℕ) (n : ℕ). x ++ drop n d) (e ∙ ap zeros l) m

-- two strings of w bytes put one after the other
put_two : (at w : ℕ) (d y z : List ℕ) → at + w ≤ length d → length y ≡ w
    → take (at + w) (take at d ++ (y ++ drop (at + w) d)) ++ (z ++ drop (at + w + w) (take at d ++ (y ++ drop (at + w) d))) ≡ take at d ++ ((y ++ z) ++ drop (at + w + w) d)
put_two at w d y z h l =
    let p = take at d in
    let q = drop (at + w) d in
    let long : length (p ++ y) ≡ at + w = length-append p y ∙ (let e = length-take-le at d (omega arith) in omega arith) in
    let rest : drop (at + w + w) (p ++ (y ++ q)) ≡ drop (at + w + w) d =
    ap (drop (at + w + w)) (sym (append_assoc p y q))
    ∙ sym (drop-drop w (at + w) ((p ++ y) ++ q))
    ∙ ap (drop w) (drop_at (p ++ y) q (at + w) long)
    ∙ drop-drop w (at + w) d
    in
    ap₂ (λ (a b : List ℕ). a ++ (z ++ b)) (put-take at w d y q (omega arith) l) rest
    ∙ append_assoc p y (z ++ drop (at + w + w) d)
    ∙ ap (λ (a : List ℕ). p ++ a) (sym (append_assoc y z (drop (at + w + w) d)))

-- ---- a child of a listed node

module _ (w : ℕ) (nodes slots : List ℕ) (n read x : ℕ) where
  pub listed-read : listed nodes x ≡ true → read ≡ read_with nodes x read
  unfolding read_with
  listed-read m = sym (ap (λ (b : Bool). cond b read (read + 1)) m)

  pub other-read : listed nodes x ≡ false → read + 1 ≡ read_with nodes x read
  unfolding read_with
  other-read m = sym (ap (λ (b : Bool). cond b read (read + 1)) m)

  pub listed-node : listed nodes x ≡ true → zeros w ≡ node_by w nodes slots n read x
  unfolding node_by
  listed-node m = sym (ap (λ (b : Bool). cond b (zeros w) (part slots (w * (n - (read + 1))) w)) m)

  pub other-node : listed nodes x ≡ false → part slots (w * (n - (read + 1))) w ≡ node_by w nodes slots n read x
  unfolding node_by
  other-node m = sym (ap (λ (b : Bool). cond b (zeros w) (part slots (w * (n - (read + 1))) w)) m)

  length-node : read_with nodes x read ≤ n → w * n ≤ length slots → length (node_by w nodes slots n read x) ≡ w
  unfolding node_by read_with
  length-node h l = go (listed nodes x) h
    where
      go : (b : Bool) → cond b read (read + 1) ≤ n → length (cond b (zeros w) (part slots (w * (n - (read + 1))) w)) ≡ w
      go true h = length-zeros w
      go false h = length_part slots (w * (n - (read + 1))) w (let m = mul-within w (n - (read + 1)) n (omega arith) in omega arith)

pub read-longer : (nodes : List ℕ) (a l : ℕ) → a ≤ l → read_before nodes a ≤ read_before nodes l
unfolding read_before
read-longer nodes a l h = revealed-longer (listed nodes) a l h

-- the slots of two children are there where those of both together are
both-within : (nodes : List ℕ) (x y read n : ℕ) → read_with nodes y (read_with nodes x read) ≤ n → (read_with nodes x read ≤ n) × (read_with nodes y read ≤ n)
unfolding read_with
both-within nodes x y read n h = go (listed nodes x) (listed nodes y) h
  where
    go : (p q : Bool) → cond q (cond p read (read + 1)) (cond p read (read + 1) + 1) ≤ n → (cond p read (read + 1) ≤ n) × (cond q read (read + 1) ≤ n)
    go true true h = (omega arith, omega arith)
    go true false h = (omega arith, omega arith)
    go false true h = (omega arith, omega arith)
    go false false h = (omega arith, omega arith)

-- ---- node a

module _ (w : ℕ) (nodes slots : List ℕ) (n a : ℕ) (by : listed nodes a ≡ (listed nodes (2 * a + 1) || listed nodes (2 * a + 2))) (within : read_before nodes (a + 1) ≤ n) where
  -- any node but a listed one reveals nothing, and has the children that the generator gives
  pub other-reads : listed nodes a ≡ false → read_before nodes a ≡ read_before nodes (a + 1)
  unfolding read_before sibling_to_reveal revealed_from
  other-reads e =
      sym
      (ap (λ (n : ℕ). length (revealed_from (listed nodes) n)) (add-one a) ∙ count (listed nodes (2 * a + 1)) (listed nodes (2 * a + 2)) (revealed_from (listed nodes) a) (sym by ∙ e))
    where
      count : (p q : Bool) (l : List ℕ) → (p || q) ≡ false → length (sibling_to_reveal p q a ++ l) ≡ length l
      count true q l h = contrary refl h
      count false true l h = contrary refl h
      count false false l h = refl

  pub other-children : (s : Shape) (iv x : List ℕ) → listed nodes a ≡ false → children faest s iv a x ≡ children_by w nodes slots n s iv a x
  unfolding children_by
  other-children s iv x e =
      sym
      (ap
      (λ (b : Bool). cond b (node_by w nodes slots n (read_before nodes a) (2 * a + 1) ++ node_by w nodes slots n (read_before nodes a) (2 * a + 2)) (children faest s iv a x)) e)

  -- a listed node reads as many slots as it reveals
  pub listed-reads : listed nodes a ≡ true → read_with nodes (2 * a + 2) (read_with nodes (2 * a + 1) (read_before nodes a)) ≡ read_before nodes (a + 1)
  unfolding read_before read_with sibling_to_reveal revealed_from
  listed-reads e =
      sym
      (ap (λ (n : ℕ). length (revealed_from (listed nodes) n)) (add-one a) ∙ count (listed nodes (2 * a + 1)) (listed nodes (2 * a + 2)) (revealed_from (listed nodes) a) (sym by ∙ e))
    where
      count : (p q : Bool) (l : List ℕ) → (p || q) ≡ true → length (sibling_to_reveal p q a ++ l) ≡ cond q (cond p (length l) (length l + 1)) (cond p (length l) (length l + 1) + 1)
      count true true l h = refl
      count true false l h = omega arith
      count false true l h = omega arith
      count false false l h = contrary h refl

  pub right-within : (read left : ℕ) → listed nodes a ≡ true → read ≡ read_before nodes a → left ≡ read_with nodes (2 * a + 1) read → read_with nodes (2 * a + 2) left ≤ n
  right-within read left e r l =
      let z = ap (read_with nodes (2 * a + 2)) (l ∙ ap (read_with nodes (2 * a + 1)) r) ∙ listed-reads e in
      omega arith

  pub left-within : (read : ℕ) → listed nodes a ≡ true → read ≡ read_before nodes a → read_with nodes (2 * a + 1) read ≤ n
  left-within read e r = (both-within nodes (2 * a + 1) (2 * a + 2) read n (right-within read (read_with nodes (2 * a + 1) read) e r refl)).0

  -- where the right child takes a slot the left child took none
  right-slot : (read : ℕ) → listed nodes a ≡ true → node_by w nodes slots n (read_with nodes (2 * a + 1) read) (2 * a + 2) ≡ node_by w nodes slots n read (2 * a + 2)
  unfolding node_by read_with
  right-slot read e = go (listed nodes (2 * a + 1)) (listed nodes (2 * a + 2)) (sym by ∙ e)
    where
      go : (p q : Bool) → (p || q) ≡ true
          → cond q (zeros w) (part slots (w * (n - (cond p read (read + 1) + 1))) w) ≡ cond q (zeros w) (part slots (w * (n - (read + 1))) w)
      go p true h = refl
      go true false h = refl
      go false false h = contrary h refl

  pub length-by : (s : Shape) (iv x : List ℕ) → w ≡ node_bytes s → w * n ≤ length slots → length (children_by w nodes slots n s iv a x) ≡ 2 * w
  unfolding children_by
  length-by s iv x k l = go (listed nodes a) refl
    where
      go : (b : Bool) → listed nodes a ≡ b
          → length (cond b (node_by w nodes slots n (read_before nodes a) (2 * a + 1) ++ node_by w nodes slots n (read_before nodes a) (2 * a + 2)) (children faest s iv a x)) ≡ 2 * w
      go true e =
          let b = both-within nodes (2 * a + 1) (2 * a + 2) (read_before nodes a) n (let z = listed-reads e in omega arith) in
          let p = length-node w nodes slots n (read_before nodes a) (2 * a + 1) b.0 l in
          let q = length-node w nodes slots n (read_before nodes a) (2 * a + 2) b.1 l in
          simp length-append (omega arith)
      go false e = length-children faest s iv a x ∙ ap (λ (m : ℕ). 2 * m) (sym k)

  -- both children written
  pub listed-children : (s : Shape) (iv x : List ℕ) (read left : ℕ) (d e f : List ℕ) → listed nodes a ≡ true → read ≡ read_before nodes a → left ≡ read_with nodes (2 * a + 1) read
      → w * n ≤ length slots → w * (2 * a + 3) ≤ length d
      → e ≡ take (w * (2 * a + 1)) d ++ (node_by w nodes slots n read (2 * a + 1) ++ drop (w * (2 * a + 1) + w) d)
      → f ≡ take (w * (2 * a + 2)) e ++ (node_by w nodes slots n left (2 * a + 2) ++ drop (w * (2 * a + 2) + w) e)
      → f ≡ take (w * (2 * a + 1)) d ++ (children_by w nodes slots n s iv a x ++ drop (w * (2 * a + 3)) d)
  unfolding children_by
  listed-children s iv x read left d e f m r l room long p q =
      let y = node_by w nodes slots n read (2 * a + 1) in
      let z = node_by w nodes slots n read (2 * a + 2) in
      let from = w * (2 * a + 1) in
      let one = node-place w a 1 in
      let three = node-place w a 3 in
      let two : w * (2 * a + 2) ≡ from + w = (let k = node-place w a 2 in omega arith) in
      let end : from + w + w ≡ w * (2 * a + 3) = omega arith in
      let v : node_by w nodes slots n left (2 * a + 2) ≡ z = ap (λ (k : ℕ). node_by w nodes slots n k (2 * a + 2)) l ∙ right-slot read m in
      q
      ∙ ap (λ (k : ℕ). take k e ++ (node_by w nodes slots n left (2 * a + 2) ++ drop (k + w) e)) two
      ∙ ap₂ (λ (k u : List ℕ). take (from + w) k ++ (u ++ drop (from + w + w) k)) p v
      ∙ put_two from w d y z (omega arith) (length-node w nodes slots n read (2 * a + 1) (left-within read m r) room)
      ∙ ap₂ (λ (k : ℕ) (u : List ℕ). take from d ++ (u ++ drop k d)) end
      (ap (λ (k : ℕ). node_by w nodes slots n k (2 * a + 1) ++ node_by w nodes slots n k (2 * a + 2)) r
      ∙ sym
      (ap
      (λ (b : Bool). cond b (node_by w nodes slots n (read_before nodes a) (2 * a + 1) ++ node_by w nodes slots n (read_before nodes a) (2 * a + 2)) (children faest s iv a x)) m))
