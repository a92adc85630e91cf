use mathlib.Core.Path.{◌≡◌, sym, ap, ◌∙◌, subst}
use mathlib.Core.List.{List}
use Prim.Native.Nat.{ℕ, ◌+◌, ◌-◌, ◌*◌}
use native.Mathlib.Nat.{zero-mul, one-mul}
use native.Mathlib.Omega.{arith}
use lib.ListN.{get_or}
use Rattle.spec.specs.Bytes.{bit}
use Rattle.laws.proofs.Concat.{mul-within}
use Rattle.laws.proofs.Digits.{bit-lt}
use Rattle.columns.specs.Columns.{Done}
use Rattle.columns.proofs.Adding.{behind-start, done_none, done_more, done-skip}
use Rattle.columns.proofs.add_last.Invariants.{added}
use Rattle.columns.proofs.add_last.Goals as goal
use Rattle.columns.proofs.add_last.Goals.{then-set, else-set}

pub loop-j-init : goal.loop-j-init
loop-j-init c = done_none _ _ _

pub overflow_mul-b : goal.overflow_mul-b
overflow_mul-b c =
    let g = c.args in
    omega (arith, mul-within g.b c.loop-j.j g.h (omega arith), mul-within g.b g.h (g.h + 1) (omega arith))

pub overflow_mul-b-then-set : goal.overflow_mul-b-then-set
overflow_mul-b-then-set c =
    let g = c.args in
    omega (arith, mul-within g.b c.loop-j.j g.h (omega arith), mul-within g.b g.h (g.h + 1) (omega arith))

pub xor_within-requires : goal.xor_within-requires
xor_within-requires c =
    let g = c.args in
    let l = c.loop-j in (
      mul-within g.b l.j g.h (omega arith),
      omega (arith, mul-within g.b g.h (g.h + 1) (omega arith), l.invariant.first.size),
    )

pub loop-j-preserved : goal.loop-j-preserved
loop-j-preserved c =
    let g = c.args in
    let l = c.loop-j in
    let at = g.b * g.h in
    let from = g.b * l.j in
    let old = g.cols.now in
    let next : List ℕ → Type 0 = Done g.b (l.j + 1) (added g.b g.h g.number old) old in
    elim c.if-set.branch [
      | then-set w ↦ subst next (sym w.cols-is)
          (done_more g.b l.j (added g.b g.h g.number old) (λ p. get_or l.cols (at + (p - from)) 0) old l.cols _
          (λ p hp.
          ap (λ (i : ℕ). get_or l.cols (at + i) 0) (behind-start from p)
          ∙ l.invariant.rest g.h p (omega arith) hp
          ∙ sym (ap (λ (d : ℕ). d * get_or old (at + p) 0) w.if-set.true ∙ one-mul (get_or old (at + p) 0))) l.invariant w.xor_within.ensures)
      | else-set w ↦ let clear : bit l.j g.number ≡ 0 = (let d = bit-lt l.j g.number in let q = w.if-set.false in omega arith) in
          subst next (sym w.cols-is)
          (done-skip g.b l.j (added g.b g.h g.number old) old l.cols
          (λ p hp. ap (λ (d : ℕ). d * get_or old (at + p) 0) clear ∙ zero-mul (get_or old (at + p) 0)) l.invariant)
    ]

pub shape_of-cols : goal.shape_of-cols
shape_of-cols c = c.loop-j.invariant.first.size

pub returns : goal.returns
returns c =
    let g = c.args in
    let l = c.loop-j in
    let e : l.j ≡ g.h = omega arith in
    subst (λ (j : ℕ). Done g.b j (added g.b g.h g.number g.cols.now) g.cols.now l.cols) e l.invariant
