use mathlib.Core.Path.{◌≡◌, refl, sym, ap, ◌∙◌, subst}
use Prim.Native.Nat.{ℕ, ◌+◌, ◌-◌, ◌*◌, ◌≤◌, ◌<◌}
use native.Mathlib.Nat.{mul-le-mul}
use native.Mathlib.Omega.{arith}
use lib.Bits.{bit_xor}
use lib.ListN.{length}
use Rattle.spec.specs.Shapes.{entries_of}
use Rattle.columns.specs.Columns.{Marked}
use Rattle.columns.proofs.Adding.{xored-lent}
use Rattle.columns.proofs.Running.{running-start, running-next}
use Rattle.job.specs.Jobs.{entry_commitment}
use Rattle.vector.specs.Entries.{numbered}
use Rattle.vector.proofs.Buffers.{lent, last_end, cleared-before, cleared-behind}
use Rattle.vector.proofs.Numbers.{entry_in, entry-end, width_small, deep, height-small}
use Rattle.vector.proofs.LeafNodes.{entry_length}
use Rattle.vector.proofs.Entries.{written_none, written-more}
use Rattle.vector.proofs.add_half.Goals as goal
use Rattle.vector.proofs.add_half.Goals.{After-depth_of-h, In-loop-x}

small : (c : After-depth_of-h) → (1 ≤ c.depth_of-h.result) × (c.depth_of-h.result - 1 ≤ 11) × (c.args.g.stretch.width * (c.depth_of-h.result - 1) ≤ 8192 * 11)
small c =
    let s = c.args.g.shape in
    let i = c.args.run.vector in
    let ok = c.requires.lent.0.job.shape in
    let low = height-small s i c.depth_of-h.result ok c.depth_of-h.ensures.0 in
    (deep s i c.depth_of-h.result ok c.depth_of-h.ensures.0, low, mul-le-mul (width_small c.args.g.stretch c.requires.lent.0.job.row) low)

marked : (c : After-depth_of-h) → Marked c.args.g.stretch.width (c.depth_of-h.result - 1) c.args.run.from (numbered c.args.g c.args.tree.now c.args.run) c.args.cols.now
marked c = (let g = c.args in subst (λ (d : ℕ). Marked g.g.stretch.width (d - 1) g.run.from (numbered g.g g.tree.now g.run) g.cols.now) (sym c.depth_of-h.ensures.0) c.requires.commitments_len.1)

behind : (c : After-depth_of-h) → c.args.g.stretch.width * (c.depth_of-h.result - 1) + c.args.g.stretch.width ≤ length c.args.cols.now
behind c = last_end _ _ _ (marked c).size

entry : (c : In-loop-x) → (bit_xor c.loop-x.x c.args.run.mask < entries_of c.args.g.shape c.args.run.vector)
    × (c.commitment_bytes-w.result * bit_xor c.loop-x.x c.args.run.mask + c.commitment_bytes-w.result ≤ c.commitment_bytes-w.result * entries_of c.args.g.shape c.args.run.vector)
    × (c.commitment_bytes-w.result * entries_of c.args.g.shape c.args.run.vector ≤ 393216)
entry c =
    let g = c.args in
    let inside = c.requires.lent.2 in
    let w = c.commitment_bytes-w in
    let x = c.loop-x.x in
    let below : x < entries_of g.g.shape g.run.vector = (let t = c.loop-x-test.true in let a = inside.all in omega arith) in
    let e = entry-end g.g.shape w.result g.run.vector x g.run.mask c.requires.lent.0.job.shape w.ensures.1 below inside.mask in
    (entry_in g.g.shape g.run.vector x g.run.mask below inside.mask, e.0, e.1)

-- the parts lent end within their buffers
commitment-end : (c : In-loop-x) → c.commitment_bytes-w.result * bit_xor c.loop-x.x c.args.run.mask + c.commitment_bytes-w.result ≤ length c.loop-x.commitments
commitment-end c =
    let w = c.commitment_bytes-w in
    let n = entries_of c.args.g.shape c.args.run.vector in
    let long : length c.loop-x.commitments ≡ w.result * n = c.loop-x.invariant.2.size ∙ c.requires.commitments_len.0 ∙ ap (λ (w : ℕ). w * n) (sym w.ensures.0) in
    let e = entry c in
    omega arith

column-end : (c : In-loop-x) → c.args.g.stretch.width * (c.depth_of-h.result - 1) + c.args.g.stretch.width ≤ length c.loop-x.cols
column-end c = last_end _ _ _ c.loop-x.invariant.3.size

pub overflow_sub-h : goal.overflow_sub-h
overflow_sub-h c = let m = small (goal.at.overflow_sub-h c).After-depth_of-h in omega arith

pub overflow_mul-last : goal.overflow_mul-last
overflow_mul-last c = let m = small (goal.at.overflow_mul-last c).After-depth_of-h in omega arith

pub clear_from-requires : goal.clear_from-requires
clear_from-requires c = (let e = behind (goal.at.clear_from-requires c).After-depth_of-h in omega arith)

pub loop-x-init : goal.loop-x-init
loop-x-init c =
    let g = c.args in
    let d = (goal.at.loop-x-init c).After-depth_of-h in
    let clear = c.clear_from in
    let at = g.g.stretch.width * (d.depth_of-h.result - 1) in
    let room : at ≤ length g.cols.now = (let e = behind d in omega arith) in (
      omega arith,
      c.requires.lent.2.order,
      written_none _ (entry_commitment g.g g.tree.now g.run.vector) g.run.mask g.run.from g.commitments.now,
      running-start g.g.stretch.width (d.depth_of-h.result - 1) (numbered g.g g.tree.now g.run) g.run.from g.cols.now clear.new.out (marked d) clear.auto.out
          (cleared-before at _ g.cols.now clear.new.out room clear.ensures) (cleared-behind at _ g.cols.now clear.new.out room clear.ensures),
    )

pub overflow_mul-w : goal.overflow_mul-w
overflow_mul-w c = let e = entry (goal.at.overflow_mul-w c).In-loop-x in omega arith

pub overflow_mul-w-in-loop-x : goal.overflow_mul-w-in-loop-x
overflow_mul-w-in-loop-x c = let e = entry (goal.at.overflow_mul-w-in-loop-x c).In-loop-x in omega arith

pub overflow_add-w : goal.overflow_add-w
overflow_add-w c = let e = entry (goal.at.overflow_add-w c).In-loop-x in omega arith

pub slice_bounds-add_entry-end : goal.slice_bounds-add_entry-end
slice_bounds-add_entry-end c = commitment-end (goal.at.slice_bounds-add_entry-end c).In-loop-x

pub overflow_add-last : goal.overflow_add-last
overflow_add-last c = (let m = small (goal.at.overflow_add-last c).After-depth_of-h in let b = width_small c.args.g.stretch c.requires.lent.0.job.row in omega arith)

pub slice_bounds-add_entry-end-in-loop-x : goal.slice_bounds-add_entry-end-in-loop-x
slice_bounds-add_entry-end-in-loop-x c = column-end (goal.at.slice_bounds-add_entry-end-in-loop-x c).In-loop-x

pub add_entry-requires : goal.add_entry-requires
add_entry-requires c =
    let g = c.args in
    let w = c.commitment_bytes-w in
    let l = c.loop-x in
    let at = w.result * bit_xor l.x g.run.mask in
    let last = g.g.stretch.width * (c.depth_of-h.result - 1) in record {
      lent = (c.requires.lent.0, c.requires.lent.1, c.requires.lent.2.vector, (entry (goal.at.add_entry-requires c).In-loop-x).0);
      commitment_len = (
        lent at (at + w.result) w.result l.commitments refl (commitment-end (goal.at.add_entry-requires c).In-loop-x) ∙ w.ensures.0,
        lent last (last + g.g.stretch.width) g.g.stretch.width l.cols refl (column-end (goal.at.add_entry-requires c).In-loop-x),
      );
    }

pub add_last-requires : goal.add_last-requires
add_last-requires c =
    let g = c.args in
    let l = c.loop-x in
    let last = g.g.stretch.width * (c.depth_of-h.result - 1) in
    ((small (goal.at.add_last-requires c).After-depth_of-h).1, (xored-lent last g.g.stretch.width _ l.cols _ (column-end (goal.at.add_last-requires c).In-loop-x) c.add_entry.ensures.xored).size ∙ l.invariant.3.size)

pub loop-x-preserved : goal.loop-x-preserved
loop-x-preserved c =
    let g = c.args in
    let x = g.tree.now in
    let w = c.commitment_bytes-w in
    let h = c.depth_of-h.result - 1 in
    let l = c.loop-x in
    let made = c.add_entry in
    let room = commitment-end (goal.at.loop-x-preserved c).In-loop-x in
    let from = l.invariant.0 in
    let inside = c.loop-x-test.true in (
      omega arith,
      omega arith,
      written-more w.result (entry_commitment g.g x g.run.vector) g.run.mask g.run.from l.x g.commitments.now l.commitments _ room
          (ap length made.ensures.commitment_after ∙ entry_length g.g x g.run.vector _ c.requires.lent.0.job.kind ∙ sym w.ensures.0) from made.ensures.commitment_after l.invariant.2,
      running-next g.g.stretch.width h (numbered g.g x g.run) g.run.from l.x l.cols _ _ l.invariant.3
          (xored-lent (g.g.stretch.width * h) g.g.stretch.width _ l.cols _ (column-end (goal.at.loop-x-preserved c).In-loop-x) made.ensures.xored) c.add_last.ensures,
    )

pub shape_of-commitments : goal.shape_of-commitments
shape_of-commitments c = c.loop-x.invariant.2.size

pub shape_of-cols : goal.shape_of-cols
shape_of-cols c = c.loop-x.invariant.3.size ∙ sym (marked (goal.at.shape_of-cols c).After-depth_of-h).size

pub returns : goal.returns
returns c =
    let g = c.args in
    let l = c.loop-x in
    let all : l.x ≡ g.run.to = omega arith in
    record { written = rw (all, c.commitment_bytes-w.ensures.0) at l.invariant.2; running = rw (all, c.depth_of-h.ensures.0) at l.invariant.3 }
