use mathlib.Core.Path.{◌≡◌, sym, ap, ap₂, ◌∙◌}
use mathlib.Core.List.{List, [], ◌++◌, append-nil}
use Prim.Native.Nat.{ℕ, ◌+◌, ◌-◌, ◌*◌, ◌^◌, ◌≤◌, ◌<◌}
use native.Mathlib.Nat.{mul-zero}
use native.Mathlib.Omega.{arith}
use lib.ListN.{length, take, drop, drop_of_length-le}
use lib.Pow.{pow_mono}
use Rattle.spec.specs.Bytes.{part, concat}
use Rattle.laws.proofs.Concat.{part-whole, mul_next, mul-within, mul-limit}
use Rattle.laws.proofs.Lists.{length_part}
use Rattle.laws.proofs.Putting.{put_next}
use Rattle.v1_opening.proofs.write_decommitment.Invariants.{shown}
use Rattle.v1_opening.proofs.write_decommitment.Goals as goal
use Rattle.v1_opening.proofs.write_decommitment.Goals.{After-sibling-node}

-- the sibling of the turn in its tree, and its place in the decommitment
record Placed (n d a l t : ℕ) : Type 0 where
  pub node : n * a + n ≤ t
  pub small : t ≤ 262144
  pub place : n * l + n ≤ n * d

placed : (n d a l t : ℕ) → n ≤ 32 → 2 ^ d ≤ 4096 → t ≡ n * (2 * 2 ^ d - 1) → a < 2 * 2 ^ d - 1 → l < d → Placed n d a l t
placed n d a l t hn hd e h k =
    let m = mul-within n a (2 * 2 ^ d - 1) h in
    let p = mul-within n l d k in
    let q = mul-limit n (2 * 2 ^ d - 1) 32 8192 hn (omega arith) in
    record { node = omega arith; small = omega arith; place = p }

at : (c : After-sibling-node) → Placed c.args.n c.args.d c.sibling-node.result c.loop-l.l (length c.args.tree.now)
at c = (let g = c.args in placed g.n g.d _ _ _ c.requires.0 (pow_mono {i = g.d} {j = 12} c.requires.1) c.requires.3 c.sibling-node.ensures.1 (omega arith))

-- a product of two small numbers
small : (n d : ℕ) → n ≤ 32 → d ≤ 12 → n * d ≤ 384
small n d h k = mul-limit n d 32 12 h k

pub loop-l-init : goal.loop-l-init
unfolding concat
loop-l-init c =
    (omega arith, c.requires.5, ap (λ (m : ℕ). take m c.args.out.now) (mul-zero c.args.n))

pub overflow_mul-n : goal.overflow_mul-n
overflow_mul-n c = let p = at (goal.at.overflow_mul-n c).After-sibling-node in omega arith

pub overflow_mul-n-in-loop-l : goal.overflow_mul-n-in-loop-l
overflow_mul-n-in-loop-l c = let p = at (goal.at.overflow_mul-n-in-loop-l c).After-sibling-node in let l = c.loop-l.invariant.1 in omega arith

pub copy_part-requires : goal.copy_part-requires
copy_part-requires c =
    let l = c.loop-l.invariant.1 in
    let p = at (goal.at.copy_part-requires c).After-sibling-node in
    (p.node, omega arith)

pub loop-l-preserved : goal.loop-l-preserved
loop-l-preserved c =
    let g = c.args in
    let l = c.loop-l in
    let a = c.sibling-node in
    let p = at (goal.at.loop-l-preserved c).After-sibling-node in
    let long = l.invariant.1 in
    let copy = c.copy_part in
    let out = copy.new.dst in
    let taken : part g.tree.now (g.n * a.result) g.n ≡ shown g.n g.d g.j g.tree.now l.l = ap (λ (m : ℕ). part g.tree.now (g.n * m) g.n) a.ensures.0 in (
      omega arith,
      copy.auto.dst ∙ l.invariant.1,
      ap (λ (m : ℕ). take m out) (mul_next g.n l.l)
          ∙ put_next (shown g.n g.d g.j g.tree.now) [] g.n l.l (g.n * l.l) l.out out (drop (g.n * l.l + g.n) l.out) (omega arith)
          (sym (ap length taken) ∙ length_part g.tree.now (g.n * a.result) g.n p.node) l.invariant.2
          (copy.ensures ∙ ap (λ (x : List ℕ). take (g.n * l.l) l.out ++ (x ++ drop (g.n * l.l + g.n) l.out)) taken),
    )

pub overflow_mul-n-3 : goal.overflow_mul-n-3
overflow_mul-n-3 c = let p = c.requires in let m = small _ _ p.0 p.1 in omega arith

pub copy_part-requires-2 : goal.copy_part-requires-2
copy_part-requires-2 c =
    let long = c.loop-l.invariant.1 in
    let own = c.requires.4 in
    (omega arith, omega arith)

pub returns : goal.returns
returns c =
    let g = c.args in
    let l = c.loop-l in
    let last : l.l ≡ g.d = omega arith in
    let long = l.invariant.1 in
    let front : take (g.n * g.d) l.out ≡ concat g.d (shown g.n g.d g.j g.tree.now) = rw last at l.invariant.2 in
    let rest = drop_of_length-le l.out {i = g.n * g.d + 2 * g.n} (omega arith) in
    c.copy_part-2.ensures
    ∙ ap₂ (λ (x y : List ℕ). x ++ (y ++ drop (g.n * g.d + 2 * g.n) l.out)) front (part-whole g.hidden.now (2 * g.n) c.requires.4)
    ∙ ap (λ (x : List ℕ). concat g.d (shown g.n g.d g.j g.tree.now) ++ x) (ap (λ (x : List ℕ). g.hidden.now ++ x) rest ∙ append-nil g.hidden.now)
