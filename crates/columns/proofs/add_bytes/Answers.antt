use mathlib.Core.Path.{◌≡◌, ap, subst}
use Prim.Native.Nat.{ℕ, ◌+◌, ◌*◌, ◌-◌, ◌≤◌}
use native.Mathlib.Omega.{arith}
use lib.ListN.{get_or}
use Rattle.spec.specs.Bytes.{bit}
use Rattle.laws.proofs.Concat.{mul-within}
use Rattle.columns.specs.Columns.{Xored, Added}
use Rattle.columns.proofs.Adding.{behind-start, done_none, done_more}
use Rattle.columns.proofs.add_bytes.Invariants.{added}
use Rattle.columns.proofs.add_bytes.Goals as goal

pub loop-j-init : goal.loop-j-init
loop-j-init c = (omega arith, done_none _ _ _)

pub overflow_mul-b : goal.overflow_mul-b
overflow_mul-b c =
    let g = c.args in
    omega (arith, mul-within g.b c.loop-j.j g.k (omega arith))

pub overflow_shr-number : goal.overflow_shr-number
overflow_shr-number c = omega arith

pub overflow_cast-number : goal.overflow_cast-number
overflow_cast-number c = omega arith

pub xor_bytes-requires : goal.xor_bytes-requires
xor_bytes-requires c =
    let g = c.args in
    let l = c.loop-j in
    (omega (arith, mul-within g.b l.j g.k (omega arith), l.invariant.1.first.size), omega arith)

pub overflow_step-j : goal.overflow_step-j
overflow_step-j c = omega arith

pub loop-j-smaller : goal.loop-j-smaller
loop-j-smaller c = omega arith

pub loop-j-preserved : goal.loop-j-preserved
loop-j-preserved c =
    let g = c.args in
    let l = c.loop-j in
    let d = bit l.j g.number in
    let bytes = g.bytes.now in
    let at = g.b * l.j in
    let f : ℕ → ℕ = λ p. d * get_or bytes (p - at) 0 in
    let new = c.xor_bytes.new.d in (
      omega arith,
      done_more g.b l.j (added g.number bytes) f g.cols.now l.cols new
          (λ p hp. ap (λ (n : ℕ). d * get_or bytes n 0) (behind-start at p)) l.invariant.1
          (subst (λ (n : ℕ). Xored at (at + n) f l.cols new) c.requires.1 c.xor_bytes.ensures),
    )

pub shape_of-cols : goal.shape_of-cols
shape_of-cols c = c.loop-j.invariant.1.first.size

pub returns : goal.returns
returns c =
    let g = c.args in
    let e : c.loop-j.j ≡ g.k = omega arith in
    subst (λ (j : ℕ). Added g.b j (added g.number g.bytes.now) g.cols.now c.loop-j.cols) e c.loop-j.invariant.1.first
