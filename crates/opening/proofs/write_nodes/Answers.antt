use borrow.Author.Rules.{rules}
use mathlib.Core.Path.{◌≡◌, refl, sym, ap, ◌∙◌}
use mathlib.Core.List.{◌++◌, append-nil}
use Prim.Native.Nat.{ℕ, ◌+◌, ◌-◌, ◌*◌, ◌≤◌}
use native.Mathlib.Nat.{add-zero, mul-zero, le_refl}
use native.Mathlib.Omega.{arith}
use lib.ListN.{length, get_or, take, drop}
use Rattle.spec.specs.Bytes.{concat}
use Rattle.laws.proofs.Concat.{mul_next, mul-within, mul-limit}
use Rattle.laws.proofs.Lists.{length_part}
use Rattle.laws.proofs.Putting.{put_next}
use Rattle.opening.proofs.write_nodes.Invariants.{listed}
use Rattle.opening.proofs.write_nodes.Goals as goal

-- where the next node goes
room : (w m n at l : ℕ) → m + 1 ≤ n → at + w * n ≤ l → at + w * m + w ≤ l
room w m n at l h k = (let q = mul-within w m n (omega arith) in omega arith)

pub loop-m-init : goal.loop-m-init
unfolding concat
loop-m-init c =
    let g = c.args in
    (refl, ap (λ (n : ℕ). take n g.out.now) (ap (λ (n : ℕ). g.at + n) (mul-zero g.w) ∙ add-zero g.at) ∙ sym (append-nil (take g.at g.out.now)))

pub offset_bounds-nodes-m : goal.offset_bounds-nodes-m
offset_bounds-nodes-m c = (let h = c.requires.3 c.loop-m.m (omega arith) in omega arith)

pub overflow_cast-nodes : goal.overflow_cast-nodes
overflow_cast-nodes c =
    let x = get_or c.args.nodes.now c.loop-m.m 0 in
    let h = c.requires.3 c.loop-m.m (omega arith) in
    let k = mul-limit 1 x c.args.w x c.requires.0 (le_refl x) in
    omega arith

pub overflow_mul-w : goal.overflow_mul-w
overflow_mul-w c = (let h = c.requires.3 c.loop-m.m (omega arith) in omega arith)

pub overflow_mul-w-in-loop-m : goal.overflow_mul-w-in-loop-m
overflow_mul-w-in-loop-m c =
    let g = c.args in
    let r = room g.w c.loop-m.m g.n g.at (length g.out.now) (omega arith) c.requires.2 in
    omega arith

pub overflow_add-at : goal.overflow_add-at
overflow_add-at c =
    let g = c.args in
    let r = room g.w c.loop-m.m g.n g.at (length g.out.now) (omega arith) c.requires.2 in
    omega arith

pub copy_part-requires : goal.copy_part-requires
copy_part-requires c =
    let g = c.args in
    let r = room g.w c.loop-m.m g.n g.at (length g.out.now) (omega arith) c.requires.2 in
    (c.requires.3 c.loop-m.m (omega arith), omega arith)

pub loop-m-preserved : goal.loop-m-preserved
loop-m-preserved c =
    let g = c.args in
    let l = c.loop-m in
    let out = c.copy_part.new.dst in
    let next : g.at + g.w * (l.m + 1) ≡ g.at + g.w * l.m + g.w = (let q = mul_next g.w l.m in omega arith) in
    let r = room g.w l.m g.n g.at (length g.out.now) (omega arith) c.requires.2 in (
      search rules,
      ap (λ (n : ℕ). take n out) next
          ∙ put_next (listed g.w g.nodes.now g.tree.now) (take g.at g.out.now) g.w l.m (g.at + g.w * l.m) l.out out
          (drop (g.at + g.w * l.m + g.w) l.out) (omega arith) (length_part g.tree.now (g.w * get_or g.nodes.now l.m 0) g.w (c.requires.3 l.m (omega arith)))
          l.invariant.1 c.copy_part.ensures,
    )

pub returns : goal.returns
returns c =
    let l = c.loop-m in
    let e : l.m ≡ c.args.n = omega arith in
    rw e at l.invariant.1
