-- The contract of the exported check_record from that of check_record, which is lent the first m bytes of the tree: all of them, or none where the count slice has another length
-- than 4; then it refuses with 3, or with a number of reading before. x is what the work buffers held, y what they hold, the tree without the bytes that were not lent.
use Prim.Native.Nat.{ℕ, ◌-◌, ◌*◌, ◌/◌, ◌≤◌}
use mathlib.Core.Path.{◌≡◌, refl, sym, ap, ◌∙◌}
use mathlib.Core.Bool.{Bool, true, false, cond}
use mathlib.Core.List.{List, [], ◌++◌, append-nil}
use native.Mathlib.Omega.{arith}
use lib.Dec.{eqb}
use lib.ListN.{length, take, drop, drop_of_length-le}
use lib.Seq.{take-length}
use borrow.Author.Tests.{eqb-true, eqb-false, ne_eqb}
use Rattle.spec.specs.declared.Shape.{Shape}
use Rattle.spec.specs.declared.Answer.{Answer}
use Rattle.spec.specs.Shapes.{resolved, node_bytes, leaves, shape_ok, tree_bytes}
use Rattle.spec.specs.Primitives.{faest}
use Rattle.spec.specs.Calls.{count_given, written}
use Rattle.spec.specs.HostCalls.{count_slice, with_count}
use Rattle.laws.proofs.Concat.{mul-limit}
use Rattle.laws.proofs.Conjunctions.{contrary}
use Rattle.laws.proofs.Words.{count-slice}
use Rattle.planning_laws.proofs.ShapeFacts.{shape-facts, widths, leaves-pos}
use Rattle.record.specs.Record.{contents_of, read_number}
use Rattle.record.specs.RecordCalls.{Work, work_lengths, work_of, made, record_number, answered, CheckRecord}
use Rattle.record.specs.HostRecordCalls.{HostCheckRecord}
use Rattle.record.proofs.Reading.{front-shape, read-front}
use Rattle.record.proofs.Reconstructing.{number-refused, number-three}
use Rattle.record_check.proofs.Answers.{read-quiet}

-- no tree has no bytes
tree-some : (s : Shape) → shape_ok s ≡ true → eqb 0 (tree_bytes s) ≡ false
unfolding tree_bytes
tree-some s ok =
    let f = shape-facts s ok in
    let l = leaves-pos s f in
    let m : 16 * 1 ≤ node_bytes s * (2 * leaves s - 1) = mul-limit 16 1 (node_bytes s) (2 * leaves s - 1) (widths s f).node-min (omega arith) in
    ne_eqb 0 (tree_bytes s) (λ z. omega arith)

module _ (rec : List ℕ) (x : Work) (count : List ℕ) (m : ℕ) (e : m ≡ cond (eqb (length count) 4) (length x.tree) 0) (y : Work) (r : Answer)
    (o : CheckRecord faest rec (record { tree = take m x.tree; leaf_commitments = x.leaf_commitments; q = x.q }) y r) where
  abbrev lengths : Work → List (ℕ × ℕ)
  lengths w = work_lengths (resolved (contents_of rec).shape) ((contents_of rec).row / 8) w

  -- the work buffers with another tree
  abbrev with-tree : List ℕ → Work
  with-tree t = record { tree = t; leaf_commitments = x.leaf_commitments; q = x.q }

  abbrev new : Work
  new = work_of (made faest (contents_of rec))

  abbrev Left : Type 0
  Left =
      (r.number ≡ record_number faest rec (with_count count (work_lengths (resolved (contents_of rec).shape) ((contents_of rec).row / 8) x)))
      × (◌≡◌ {A = Work} (record { tree = y.tree ++ drop m x.tree; leaf_commitments = y.leaf_commitments; q = y.q }) (written (answered r.number) (work_of (made faest (contents_of rec))) x))

  -- ---- the count slice has four bytes

  module _ (t : eqb (length count) 4 ≡ true) where
    long : m ≡ length x.tree
    long = e ∙ rw t refl

    all : take m x.tree ≡ x.tree
    all = rw long (take-length x.tree)

    none_left : drop m x.tree ≡ []
    none_left = drop_of_length-le x.tree {i = m} (omega (arith, long))

    full : Left
    unfolding record_number
    full = (
      o.number ∙ ap (λ (l : List ℕ). record_number faest rec (lengths (with-tree l))) all ∙ sym (rw t refl),
      ap (λ (l : List ℕ). record { tree = y.tree ++ l; leaf_commitments = y.leaf_commitments; q = y.q }) none_left
          ∙ ap (λ (l : List ℕ). record { tree = l; leaf_commitments = y.leaf_commitments; q = y.q }) (append-nil y.tree)
          ∙ o.buffers
          ∙ ap (λ (l : List ℕ). written (answered r.number) new (with-tree l)) all,
    )

  -- ---- it has not: nothing is lent of the tree

  module _ (t : eqb (length count) 4 ≡ false) where
    none : m ≡ 0
    none = e ∙ rw t refl

    lent : r.number ≡ record_number faest rec (lengths (with-tree []))
    lent = o.number ∙ rw none refl

    refused : (r.number ≡ record_number faest rec (with_count count (lengths x))) × (eqb (answered r.number) 0 ≡ false) × (count_given (answered r.number) ≡ false)
    refused = go (eqb (read_number rec) 0) refl
      where
        go : (b : Bool) → eqb (read_number rec) 0 ≡ b
            → (r.number ≡ record_number faest rec (with_count count (lengths x))) × (eqb (answered r.number) 0 ≡ false) × (count_given (answered r.number) ≡ false)
        go true z =
            let ok = eqb-true (read_number rec) 0 z in
            let n : r.number ≡ 3 = lent ∙ number-three faest rec (lengths (with-tree [])) ok (rw (tree-some (resolved (contents_of rec).shape) (front-shape rec (read-front rec ok))) refl) in
            (n ∙ sym (number-three faest rec (with_count count (lengths x)) ok (rw t refl)), rw n refl, rw n refl)
        go false z =
            let bad = eqb-false (read_number rec) 0 z in
            let n : r.number ≡ read_number rec = lent ∙ number-refused faest rec (lengths (with-tree [])) bad in
            let quiet = read-quiet rec bad in
            (n ∙ sym (number-refused faest rec (with_count count (lengths x)) bad), rw n quiet.0, rw n quiet.1)

    kept : Left
    kept =
        let z = refused.1 in
        let b : y ≡ with-tree [] = o.buffers ∙ rw (z, none) refl in
        (refused.0, rw (b, none, z) refl)

  -- ---- both

  cases : {A : Type 0} → (eqb (length count) 4 ≡ true → A) → (eqb (length count) 4 ≡ false → A) → A
  cases {A} f g = go (eqb (length count) 4) refl
    where
      go : (b : Bool) → eqb (length count) 4 ≡ b → A
      go true t = f t
      go false t = g t

  left : Left
  left = cases full kept

  pub checked-sized : count_given (answered r.number) ≡ true → length count ≡ 4
  checked-sized h = cases (λ t. eqb-true (length count) 4 t) (λ t. contrary h (refused t).2)

  pub checked-host : (count' : List ℕ) → count' ≡ count_slice (answered r.number) r.count count
      → HostCheckRecord faest rec x (record { tree = y.tree ++ drop m x.tree; leaf_commitments = y.leaf_commitments; q = y.q }) count count' r.number
  checked-host count' d =
      record { number = left.0; buffers = left.1; counted = d ∙ ap (λ (k : ℕ). count_slice (answered r.number) k count) o.count ∙ count-slice (answered r.number) _ count }
