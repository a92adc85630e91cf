-- The hidden entry has number 0, so that the first half starts at number 1. Its leaf commitment stands in its place before the others are written.
use mathlib.Core.Path.{◌≡◌, refl, ap, ◌∙◌, subst}
use mathlib.Core.List.{◌++◌}
use Prim.Native.Nat.{ℕ, ◌+◌, ◌*◌, ◌/◌, ◌≤◌}
use native.Mathlib.Omega.{arith}
use lib.ListN.{length, take, drop}
use Rattle.spec.specs.Bytes.{part}
use Rattle.spec.specs.Shapes.{leaf_commitment_bytes, depth_of, entries_of}
use Rattle.job.specs.Jobs.{entry_commitment}
use Rattle.vector.specs.Entries.{Written}
use Rattle.vector.proofs.Buffers.{block-end}
use Rattle.vector.proofs.Numbers.{half_is}
use Rattle.vector.proofs.Entries.{written_then}
use Rattle.vector.proofs.Halves.{lower-inside, upper-inside, lower-marked, upper-marked, columns_of}
use Rattle.verifier_vector.proofs.Given.{all-given}
use Rattle.verifier_vector.proofs.add_visible.Goals as goal
use Rattle.verifier_vector.proofs.add_visible.Goals.{After-commitment_bytes-w}

-- the hidden entry's place ends within the buffer
room : (c : After-commitment_bytes-w) → c.commitment_bytes-w.result * c.args.x.entry + c.commitment_bytes-w.result ≤ length c.args.lcs.now
room c =
    let g = c.args in
    let w = c.commitment_bytes-w in
    let n = entries_of g.g.shape g.x.vector in
    let all : w.result * n ≡ leaf_commitment_bytes g.g.shape * n = ap (λ (m : ℕ). m * n) w.ensures.0 in
    block-end w.result g.x.entry n (length g.lcs.now) c.requires.lent.3 (let l = c.requires.hidden_len.1 in omega arith)

pub overflow_mul-w : goal.overflow_mul-w
overflow_mul-w c = let e = room (goal.at.overflow_mul-w c).After-commitment_bytes-w in omega arith

pub copy_part-requires : goal.copy_part-requires
copy_part-requires c = (let w = c.commitment_bytes-w.ensures.0 in let h = c.requires.hidden_len.0 in (omega arith, room (goal.at.copy_part-requires c).After-commitment_bytes-w))

pub add_half-requires : goal.add_half-requires
add_half-requires c =
    let g = c.args in
    let p = c.requires in
    let ok = p.lent.0.job.shape in
    let n = c.entry_count-n in
    let clear = c.clear_from in record {
      lent = (p.lent.0, p.lent.1, lower-inside g.g ok g.x.vector g.x.entry n.result n.ensures.0 p.lent.3 1 (omega arith) p.lent.2);
      commitments_len = (
        c.copy_part.auto.dst ∙ p.hidden_len.1,
        lower-marked g.g ok g.x.vector g.x.entry n.result n.ensures.0 p.lent.3 g.tree.now 1 _ g.cols.now clear.new.out (omega arith) p.hidden_len.2 clear.auto.out clear.ensures,
      );
    }

pub add_half-requires-2 : goal.add_half-requires-2
add_half-requires-2 c =
    let g = c.args in
    let p = c.requires in
    let ok = p.lent.0.job.shape in
    let n = c.entry_count-n in
    let made = c.add_half.ensures in record { lent = (p.lent.0, p.lent.1, upper-inside g.g ok g.x.vector g.x.entry n.result n.ensures.0 p.lent.3 p.lent.2); commitments_len = (made.written.size ∙ c.copy_part.auto.dst ∙ p.hidden_len.1, upper-marked g.g ok g.x.vector g.x.entry n.result n.ensures.0 p.lent.3 g.tree.now 1 _ made.running) }

pub returns : goal.returns
unfolding entries_of
returns c =
    let g = c.args in
    let s = g.g.shape in
    let i = g.x.vector in
    let d = g.x.entry in
    let p = c.requires in
    let ok = p.lent.0.job.shape in
    let n = c.entry_count-n in
    let half = half_is s i (depth_of s i) ok refl n.result n.ensures.0 in
    let w = leaf_commitment_bytes s in
    let own = entry_commitment g.g g.tree.now i in
    let copy = c.copy_part in
    let one = c.add_half in
    let two = c.add_half-2 in
    let old = copy.new.dst in
    let new = two.new.commitments in
    let put = subst (λ (w : ℕ). old ≡ take (w * d) g.lcs.now ++ (part g.hidden.now 0 w ++ drop (w * d + w) g.lcs.now)) c.commitment_bytes-w.ensures.0 copy.ensures in
    let all = subst (λ (m : ℕ). Written w own d 1 m old new) n.ensures.0 (written_then w own d 1 (n.result / 2) n.result old _ new half.1 one.ensures.written two.ensures.written) in record { lcs_after = all-given w g.hidden.now own d (depth_of s i) g.lcs.now old new p.lent.3 p.hidden_len.1 p.hidden_len.0 put all; cols_after = columns_of g.g ok i d n.result n.ensures.0 p.lent.3 g.tree.now _ two.ensures.running }
