-- What the two halves and the hash ensure, joined by the law `converted`; the last column after each half makes the xor of all rows.
use Prim.Native.Nat.{ℕ, ◌+◌, ◌-◌, ◌*◌, ◌/◌, ◌≤◌}
use mathlib.Core.Path.{ap, ◌∙◌}
use native.Mathlib.Nat.{mul-le-mul}
use native.Mathlib.Omega.{arith}
use lib.Bits.{bit_xor}
use lib.ListN.{length, get_or}
use Rattle.spec.specs.Hashes.{hash1}
use Rattle.spec.specs.Shapes.{depth_of}
use Rattle.spec.specs.Rows.{u_byte}
use Rattle.columns.proofs.Running.{running-total}
use Rattle.job.specs.Jobs.{entry_byte}
use Rattle.vector.specs.Entries.{numbered}
use Rattle.vector.proofs.Buffers.{last_end}
use Rattle.vector.proofs.Numbers.{width_small, deep, height-small, u-by-number}
use Rattle.vector.proofs.Halves.{upper, lower-inside, upper-inside, lower-marked, upper-marked, columns_of}
use Rattle.signer_vectors.proofs.Steps.{sum_of, some-entry, converted}
use Rattle.signer_vectors.proofs.convert.Goals as goal

pub overflow_sub-last : goal.overflow_sub-last
overflow_sub-last c =
    (let z = deep c.args.g.shape c.args.i c.depth_of.result c.requires.lent.0.job.shape c.depth_of.ensures.0 in omega arith)

pub overflow_mul-last : goal.overflow_mul-last
overflow_mul-last c =
    let d = c.depth_of in
    let g = c.args.g in
    let job = c.requires.lent.0.job in
    let m : g.stretch.width * (d.result - 1) ≤ 8192 * 11 = mul-le-mul (width_small g.stretch job.row) (height-small g.shape c.args.i d.result job.shape d.ensures.0) in
    omega arith

pub add_half-requires : goal.add_half-requires
add_half-requires c =
    let g = c.args in
    let p = c.requires in
    let ok = p.lent.0.job.shape in
    let n = c.entry_count-n in
    let clear = c.clear_from in
    let m = some-entry g.g.shape g.i in record { lent = (p.lent.0, c.hash_multiples-m.ensures g.g.iv p.lent.1, lower-inside g.g ok g.i 0 n.result n.ensures.0 m 0 (omega arith) p.lent.2); commitments_len = (p.lcs_len.0, lower-marked g.g ok g.i 0 n.result n.ensures.0 m g.tree.now 0 _ g.cols.now clear.new.out (omega arith) p.lcs_len.1 clear.auto.out clear.ensures) }

pub add_part-requires : goal.add_part-requires
add_part-requires c =
    let b = c.args.g.stretch.width in
    let l = last_end _ _ _ c.add_half.ensures.running.size in
    let at = ap (λ (d : ℕ). b * (d - 1)) c.depth_of.ensures.0 in
    let total = c.requires.lent.3 in
    omega arith

pub add_half-requires-2 : goal.add_half-requires-2
add_half-requires-2 c =
    let g = c.args in
    let p = c.requires in
    let ok = p.lent.0.job.shape in
    let n = c.entry_count-n in
    let made = c.add_half.ensures in
    let m = some-entry g.g.shape g.i in record { lent = (p.lent.0, c.hash_multiples-m.ensures g.g.iv p.lent.1, upper-inside g.g ok g.i 0 n.result n.ensures.0 m p.lent.2); commitments_len = (made.written.size ∙ p.lcs_len.0, upper-marked g.g ok g.i 0 n.result n.ensures.0 m g.tree.now 0 _ made.running) }

pub add_part-requires-2 : goal.add_part-requires-2
add_part-requires-2 c =
    let b = c.args.g.stretch.width in
    let l = last_end _ _ _ c.add_half-2.ensures.running.size in
    let at = ap (λ (d : ℕ). b * (d - 1)) c.depth_of.ensures.0 in
    let total = c.add_part.ensures.size ∙ c.requires.lent.3 in
    omega arith

pub rate_bytes-requires : goal.rate_bytes-requires
rate_bytes-requires c = c.requires.lent.0.job.shape

pub shape_of-cols : goal.shape_of-cols
shape_of-cols c = c.add_half-2.auto.cols ∙ c.add_half.auto.cols ∙ c.clear_from.auto.out

pub returns : goal.returns
returns c =
    let g = c.args in
    let s = g.g.shape in
    let i = g.i in
    let b = g.g.stretch.width in
    let tree = g.tree.now in
    let p = c.requires in
    let ok = p.lent.0.job.shape in
    let n = c.entry_count-n in
    let d = c.depth_of in
    let m = some-entry s i in
    let one = c.add_half in
    let two = c.add_half-2 in
    let x = one.new.cols in
    let y = two.new.cols in
    let at = ap (λ (d : ℕ). b * (d - 1)) d.ensures.0 in record {
      total_after = sum_of b (b * (d.result - 1)) (u_byte s (entry_byte g.g tree) i) x y g.total.now _ _ p.lent.3 c.add_part.ensures c.add_part-2.ensures
          (λ q l. ap (λ (k : ℕ). bit_xor (get_or x (k + q) 0) (get_or y (k + q) 0)) at
          ∙ running-total b (depth_of s i - 1) (numbered g.g tree (upper g.g ok i 0 n.result n.ensures.0 m)) (n.result / 2) n.result q x y l one.ensures.running two.ensures.running
          ∙ u-by-number s (entry_byte g.g tree) i 0 m n.result q n.ensures.0);
      converted = converted g.g tree i (n.result / 2) n.result g.lcs.now _ _ _ g.hash.now _ n.ensures.0 p.lcs_len.0 p.lcs_len.2 one.ensures.written two.ensures.written
          (columns_of g.g ok i 0 n.result n.ensures.0 m tree y two.ensures.running)
          (c.h1.ensures ∙ ap (λ (r : ℕ). hash1 r two.new.commitments (length g.hash.now)) c.rate_bytes.ensures.0);
    }
