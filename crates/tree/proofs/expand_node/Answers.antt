-- What `KeySchedule::new` and `fill_keyed` ensure of the parts they are lent.
use mathlib.Core.Path.{◌≡◌, sym, ap, ap₂, subst, ◌∙◌}
use mathlib.Core.List.{List, ◌++◌}
use Prim.Native.Nat.{ℕ, ◌+◌, ◌-◌, ◌*◌, ◌/◌, ◌%◌, ◌^◌, ◌≤◌, ◌<◌}
use native.Mathlib.Nat.{le-add_right}
use native.Mathlib.Omega.{arith}
use lib.ListN.{length, take, drop}
use Rattle.spec.specs.Bytes.{part, tabulate}
use Rattle.spec.specs.Shapes.{node_bytes, key_words}
use Rattle.spec.specs.Primitives.{prg}
use Rattle.job.specs.Versions.{byte_of}
use Rattle.job.proofs.Each.{prg-byte}
use Rattle.spec.specs.Leaves.{children}
use Rattle.laws.proofs.Lists.{length_part, tabulate-from-0}
use Rattle.laws.proofs.Concat.{mul-limit}
use Rattle.laws.proofs.Putting.{behind}
use Rattle.planning_laws.proofs.ShapeFacts.{shape-facts, widths}
use Rattle.aes_keys.specs.Scheduled.{Expands}
use Rattle.tree.proofs.Growing.{node-place}
use Rattle.tree.proofs.expand_node.Goals as goal

-- where node a and its children stand, in a tree of d bytes
record Places (n a d : ℕ) : Type 0 where
  pub small : a < 2 ^ 32
  pub node : n * a + n ≤ n * (2 * a + 1)
  pub last : n * (2 * a + 1) + 2 * n ≡ n * (2 * a + 3)
  pub room : n * (2 * a + 1) + 2 * n ≤ d

places : (n a d : ℕ) → (16 ≤ n) × (n ≤ 32) × (n % 8 ≡ 0) × (n * (2 * a + 3) ≤ d) × (d < 2 ^ 32) → Places n a d
places n a d h =
    let one = node-place n a 1 in
    let three = node-place n a 3 in
    let m = mul-limit 16 a n a h.0 (let z : a ≤ a = omega arith in z) in
    let r = h.3 in
    let l = h.4 in
    record { small = omega arith; node = omega arith; last = omega arith; room = omega arith }

-- the key has a node's length
key-size : (n a : ℕ) (x : List ℕ) → Places n a (length x) → length (part x (n * a) (n * a + n - n * a)) ≡ n
key-size n a x p =
    let one : n * a + n - n * a ≡ n = omega arith in
    ap (λ (m : ℕ). length (part x (n * a) m)) one ∙ length_part x (n * a) n (omega arith)

-- the children have the length of two nodes
two_size : (n a : ℕ) (x : List ℕ) → Places n a (length x) → length (part x (n * (2 * a + 1)) (n * (2 * a + 1) + 2 * n - n * (2 * a + 1))) ≡ 2 * n
two_size n a x p =
    let from = n * (2 * a + 1) in
    let two : from + 2 * n - from ≡ 2 * n = omega arith in
    ap (λ (m : ℕ). length (part x from m)) two ∙ length_part x from (2 * n) p.room

pub overflow_mul-from : goal.overflow_mul-from
overflow_mul-from c = (let p = places c.args.n c.args.a (length c.args.tree.now) c.requires in omega arith)

pub overflow_add-from : goal.overflow_add-from
overflow_add-from c = (let p = places c.args.n c.args.a (length c.args.tree.now) c.requires in omega arith)

pub overflow_mul-from-2 : goal.overflow_mul-from-2
overflow_mul-from-2 c = (let p = places c.args.n c.args.a (length c.args.tree.now) c.requires in omega (arith, c.requires.4))

pub overflow_mul-n : goal.overflow_mul-n
overflow_mul-n c = (let p = places c.args.n c.args.a (length c.args.tree.now) c.requires in omega (arith, c.requires.4))

pub overflow_mul-n-2 : goal.overflow_mul-n-2
overflow_mul-n-2 c = (let p = places c.args.n c.args.a (length c.args.tree.now) c.requires in omega (arith, c.requires.4))

pub overflow_add-n : goal.overflow_add-n
overflow_add-n c = (let p = places c.args.n c.args.a (length c.args.tree.now) c.requires in omega (arith, c.requires.4))

pub slice_bounds-new-count : goal.slice_bounds-new-count
slice_bounds-new-count c = le-add_right _ _

pub slice_bounds-new-start : goal.slice_bounds-new-start
slice_bounds-new-start c = le-add_right _ _

pub slice_bounds-new-end : goal.slice_bounds-new-end
slice_bounds-new-end c = (let p = places c.args.n c.args.a (length c.args.tree.now) c.requires in omega arith)

pub new-schedule-requires : goal.new-schedule-requires
new-schedule-requires c =
    let p = c.requires in
    let e = key-size c.args.n c.args.a c.args.tree.now (places c.args.n c.args.a (length c.args.tree.now) c.requires) in
    (omega (arith, p.0), omega (arith, p.1), ap (λ (m : ℕ). m % 8) e ∙ p.2)

pub overflow_cast-x : goal.overflow_cast-x
overflow_cast-x c = (let p = places c.args.n c.args.a (length c.args.tree.now) c.requires in omega arith)

pub overflow_add-from-2 : goal.overflow_add-from-2
overflow_add-from-2 c = (let p = places c.args.n c.args.a (length c.args.tree.now) c.requires in omega (arith, c.requires.4))

pub slice_bounds-fill_keyed-count : goal.slice_bounds-fill_keyed-count
slice_bounds-fill_keyed-count c = le-add_right _ _

pub slice_bounds-fill_keyed-start : goal.slice_bounds-fill_keyed-start
slice_bounds-fill_keyed-start c = le-add_right _ _

pub slice_bounds-fill_keyed-end : goal.slice_bounds-fill_keyed-end
slice_bounds-fill_keyed-end c = (let p = places c.args.n c.args.a (length c.args.tree.now) c.requires in omega arith)

pub fill_keyed-requires : goal.fill_keyed-requires
fill_keyed-requires c =
    let p = c.requires in
    let e = two_size c.args.n c.args.a c.args.tree.now (places c.args.n c.args.a (length c.args.tree.now) c.requires) in
    let n = c.args.n in
    omega (arith, p.1)

pub returns : goal.returns
unfolding prg children
returns c = λ s ok e.
    let g = c.args in
    let x = g.tree.now in
    let n = g.n in
    let a = g.a in
    let from = n * (2 * a + 1) in
    let p = places c.args.n c.args.a (length c.args.tree.now) c.requires in
    let w = widths s (shape-facts s ok) in
    let words : n ≡ 4 * key_words s = e ∙ w.node-words in
    let one : n * a + n - n * a ≡ n = omega arith in
    let key : part x (n * a) (n * a + n - n * a) ≡ part x (n * a) n = ap (part x (n * a)) one in
    let schedule = c.new-schedule in
    let quarter : length (part x (n * a) (n * a + n - n * a)) / 4 ≡ key_words s = (let k = key-size c.args.n c.args.a c.args.tree.now (places c.args.n c.args.a (length c.args.tree.now) c.requires) in omega arith) in
    let f : List ℕ → ℕ → ℕ = λ k. byte_of (key_words s) k (record { iv = g.iv; tweak = a; version = g.version }) in
    let made =
    c.fill_keyed.ensures (key_words s) _ (subst (λ (m : ℕ). Expands m (part x (n * a) (n * a + n - n * a)) schedule.result) quarter schedule.ensures)
    ∙ ap₂ (λ (m : ℕ) (k : List ℕ). tabulate m (λ q. f k (0 + q))) (two_size c.args.n c.args.a c.args.tree.now (places c.args.n c.args.a (length c.args.tree.now) c.requires) ∙ ap (λ (m : ℕ). 2 * m) e) key
    ∙ tabulate-from-0 (2 * node_bytes s) (f (part x (n * a) n))
    ∙ ap (tabulate (2 * node_bytes s)) (sym (prg-byte g.version s (part x (n * a) n) g.iv a)) in
    let rest : drop (from + 2 * n - from) (drop from x) ≡ drop (n * (2 * a + 3)) x = behind from (2 * n) x ∙ ap (λ (m : ℕ). drop m x) p.last in
    ap₂ (λ (y z : List ℕ). take from x ++ (y ++ z)) made rest
