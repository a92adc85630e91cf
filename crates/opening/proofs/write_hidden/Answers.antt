use borrow.Author.Rules.{rules}
use mathlib.Core.Path.{◌≡◌, refl, sym, ap, ap₂, ◌∙◌}
use mathlib.Core.List.{List, [], ◌++◌}
use Prim.Native.Nat.{ℕ, ◌+◌, ◌-◌, ◌*◌, ◌≤◌}
use native.Mathlib.Omega.{arith}
use native.Mathlib.Nat.{mul-zero}
use lib.ListN.{length, take, drop}
use Rattle.spec.specs.Bytes.{part, concat}
use Rattle.spec.specs.Shapes.{leaf_commitment_bytes, leaves, first_entry, hidden_index, leaf_commitments_bytes}
use Rattle.spec.specs.Signer.{leaf_commitment_at}
use Rattle.laws.proofs.Concat.{mul_next, mul-within, mul-limit}
use Rattle.laws.proofs.Lists.{length_part}
use Rattle.laws.proofs.Putting.{put_next}
use Rattle.planning_laws.proofs.ShapeFacts.{shape-facts}
use Rattle.opening.proofs.write_hidden.Invariants.{hidden}
use Rattle.opening.proofs.write_hidden.Goals as goal

pub loop-i-init : goal.loop-i-init
unfolding concat
loop-i-init c = (refl, ap (λ (n : ℕ). take n c.args.out.now) (mul-zero c.commitment_bytes-w.result))

pub overflow_mul-w : goal.overflow_mul-w
overflow_mul-w c =
    let w = c.commitment_bytes-w in
    let m = mul-limit w.result c.entry_of.result 96 86016 w.ensures.1 (omega (arith, c.entry_of.ensures.2)) in
    omega arith

pub overflow_mul-w-in-loop-i : goal.overflow_mul-w-in-loop-i
overflow_mul-w-in-loop-i c =
    let f = shape-facts c.args.s c.requires.0 in
    let w = c.commitment_bytes-w in
    let m = mul-limit w.result c.loop-i.i 96 32 w.ensures.1 (omega arith) in
    omega arith

pub copy_part-requires : goal.copy_part-requires
unfolding leaf_commitments_bytes
copy_part-requires c =
    let w = c.commitment_bytes-w in
    let s = c.args.s in
    let all : w.result * leaves s ≡ leaf_commitment_bytes s * leaves s = ap (λ (n : ℕ). n * leaves s) w.ensures.0 in
    let front : w.result * s.tau ≡ leaf_commitment_bytes s * s.tau = ap (λ (n : ℕ). n * s.tau) w.ensures.0 in
    let a = mul-within w.result c.entry_of.result (leaves s) c.entry_of.ensures.1 in
    let b = mul-within w.result c.loop-i.i s.tau (omega arith) in
    (omega arith, omega arith)

pub loop-i-preserved : goal.loop-i-preserved
unfolding leaf_commitment_at leaf_commitments_bytes
loop-i-preserved c =
    let g = c.args in
    let l = c.loop-i in
    let w = c.commitment_bytes-w in
    let entry = c.entry_of in
    let j = c.hidden_index-j in
    let of : entry.result ≡ first_entry g.s l.i + hidden_index g.s g.ch.now l.i = entry.ensures.0 ∙ ap (λ (n : ℕ). first_entry g.s l.i + n) j.ensures.0 in
    let all : w.result * leaves g.s ≡ leaf_commitment_bytes g.s * leaves g.s = ap (λ (n : ℕ). n * leaves g.s) w.ensures.0 in
    let within = mul-within w.result entry.result (leaves g.s) entry.ensures.1 in
    let room = mul-within w.result l.i g.s.tau (omega arith) in
    let front : w.result * g.s.tau ≡ leaf_commitment_bytes g.s * g.s.tau = ap (λ (n : ℕ). n * g.s.tau) w.ensures.0 in
    let taken : part g.lcs.now (w.result * entry.result) w.result ≡ hidden g.s g.ch.now g.lcs.now l.i =
    ap₂ (λ (m n : ℕ). part g.lcs.now (m * n) m) w.ensures.0 of in
    let out = c.copy_part.new.dst in (
      search rules,
      ap (λ (n : ℕ). take n out) (mul_next w.result l.i)
          ∙ put_next (hidden g.s g.ch.now g.lcs.now) [] w.result l.i (w.result * l.i) l.out out (drop (w.result * l.i + w.result) l.out) (omega arith)
          (sym (ap length taken) ∙ length_part g.lcs.now (w.result * entry.result) w.result (omega arith)) l.invariant.1
          (c.copy_part.ensures ∙ ap (λ (p : List ℕ). take (w.result * l.i) l.out ++ (p ++ drop (w.result * l.i + w.result) l.out)) taken),
    )

pub returns : goal.returns
returns c =
    let l = c.loop-i in
    let e : l.i ≡ c.args.s.tau = omega arith in
    rw (e, c.commitment_bytes-w.ensures.0) at l.invariant.1
