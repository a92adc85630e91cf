-- The promises of its parts, with the hidden commitment of the opening in its place.
use mathlib.Core.Path.{◌≡◌, sym, ap, ap₂, ◌∙◌}
use mathlib.Core.List.{List, ◌++◌}
use Prim.Native.Nat.{ℕ, ◌+◌, ◌*◌}
use native.Mathlib.Omega.{arith}
use lib.Bits.{bit_xor}
use lib.ListN.{length, take, drop}
use Rattle.spec.specs.Bytes.{tabulate, concat}
use Rattle.spec.specs.Hashes.{hash1}
use Rattle.spec.specs.Shapes.{leaf_commitment_bytes, rate, depth_of, entries_of}
use Rattle.spec.specs.Primitives.{faest}
use Rattle.spec.specs.Leaves.{vector_commitments, vector_hash}
use Rattle.spec.specs.Rows.{column_byte}
use Rattle.job.specs.Jobs.{entry_commitment, entry_byte, given_commitment}
use Rattle.vector.proofs.Buffers.{block-end}
use Rattle.vector.proofs.LeafNodes.{entry_length}
use Rattle.verifier_vector.specs.Vector.{given, uncorrected}
use Rattle.verifier_vector.proofs.Given.{hashed-whole}
use Rattle.verifier_vector.proofs.convert.Goals as goal

pub add_visible-requires : goal.add_visible-requires
add_visible-requires c =
    let p = c.requires in
    record { lent = (p.lent.0, c.hash_multiples-m.ensures c.args.g.iv p.lent.1, p.lent.2, p.lent.3); hidden_len = (p.lent.4, p.lcs_len.0, p.lcs_len.1) }

pub hash_vector-requires : goal.hash_vector-requires
hash_vector-requires c =
    let g = c.args in
    let w = c.commitment_bytes-w in
    let r = c.rate_bytes-r.ensures in
    let n = entries_of g.g.shape g.x.vector in
    let long = c.add_visible.auto.lcs ∙ c.requires.lcs_len.0 in
    let all : w.result * n ≡ leaf_commitment_bytes g.g.shape * n = ap (λ (m : ℕ). m * n) w.ensures.0 in
    (r.1, r.2, block-end w.result g.x.entry n _ c.requires.lent.3 (omega arith))

pub returns : goal.returns
unfolding faest vector_commitments vector_hash given_commitment uncorrected
returns c ch opening hd hh =
    let g = c.args in
    let p = c.requires in
    let s = g.g.shape in
    let i = g.x.vector in
    let d = g.x.entry in
    let x = g.tree.now in
    let n = entries_of s i in
    let w = c.commitment_bytes-w in
    let made = c.add_visible in
    let lcs : List ℕ = made.new.lcs in
    let own = entry_commitment g.g x i in
    let leaves = made.ensures.lcs_after ∙ ap₂ (λ (v : List ℕ) (m : ℕ). concat n (given v own m)) hh hd in
    let message = hashed-whole w.result g.hidden.now own d n lcs p.lent.3 (p.lent.4 ∙ sym w.ensures.0) (λ e. entry_length g.g x i e p.lent.0.job.kind ∙ sym w.ensures.0) made.ensures.lcs_after in
    record {
      leaves = leaves;
      columns = made.ensures.cols_after ∙ ap (λ (m : ℕ). concat (depth_of s i) (λ j. tabulate g.g.stretch.width (column_byte s (entry_byte g.g x) (λ e. bit_xor e m) i j))) hd;
      digest =
          c.hash_vector.ensures
          ∙ ap (λ (k : ℕ). hash1 k (take (w.result * d) lcs ++ (g.hidden.now ++ drop (w.result * d + w.result) lcs)) (length g.hash.now)) c.rate_bytes-r.ensures.0
          ∙ ap₂ (λ (v : List ℕ) (m : ℕ). hash1 (rate s) v m) (message ∙ leaves) p.lcs_len.2;
    }
