use mathlib.Core.Path.{◌≡◌, sym, ap, ◌∙◌, subst}
use mathlib.Core.List.{List}
use Prim.Native.Nat.{ℕ, ◌+◌, ◌-◌, ◌≤◌, ◌<◌}
use native.Mathlib.Omega.{arith}
use lib.ListN.{get_or}
use Rattle.laws.proofs.Lists.{get_or-tabulate}
use Rattle.columns.specs.Columns.{Xored}
use Rattle.columns.proofs.Adding.{behind-start, xored-none, xored-more, xored-same, xored-then}
use Rattle.columns.proofs.xor_within.Invariants.{moved}
use Rattle.columns.proofs.xor_within.Goals as goal

pub loop-at-init : goal.loop-at-init
loop-at-init c = (omega arith, xored-none _ _ _)

pub overflow_sub-n : goal.overflow_sub-n
overflow_sub-n c = omega arith

pub overflow_add-from : goal.overflow_add-from
overflow_add-from c = omega (arith, c.loop-at.invariant.1.size)

pub block_at-block-requires : goal.block_at-block-requires
block_at-block-requires c = omega (arith, c.loop-at.invariant.1.size)

pub overflow_add-to : goal.overflow_add-to
overflow_add-to c = omega (arith, c.loop-at.invariant.1.size)

pub xor_16-requires : goal.xor_16-requires
xor_16-requires c = omega (arith, c.loop-at.invariant.1.size)

pub overflow_add-at : goal.overflow_add-at
overflow_add-at c = omega arith

pub loop-at-smaller-then-n-at-ge16 : goal.loop-at-smaller-then-n-at-ge16
loop-at-smaller-then-n-at-ge16 c = omega arith

-- a block
pub loop-at-preserved-then-n-at-ge16 : goal.loop-at-preserved-then-n-at-ge16
loop-at-preserved-then-n-at-ge16 c =
    let g = c.args in
    let l = c.loop-at in
    let block = c.block_at-block in
    let new = c.xor_16.new.d in
    let at = g.to + l.at in
    let end = g.to + (l.at + 16) in
    let f : ℕ → ℕ = moved g.from g.to g.d.now in
    let same : (p : ℕ) → at ≤ p → p < end → get_or block.result (p - at) 0 ≡ f p =
    λ p a b.
    ap (λ (x : List ℕ). get_or x (p - at) 0) block.ensures
    ∙ get_or-tabulate 16 (λ i. get_or l.d (g.from + l.at + i) 0) (p - at) 0 (omega arith)
    ∙ l.invariant.1.outside (g.from + l.at + (p - at)) (λ x y. omega arith)
    ∙ ap (λ (i : ℕ). get_or g.d.now i 0) (omega arith)
    in (
      omega arith,
      xored-then g.to at end f g.d.now l.d new (omega arith) (omega arith) l.invariant.1
          (xored-same at (at + 16) end f (λ p. get_or block.result (p - at) 0) l.d new (omega arith) same c.xor_16.ensures),
    )

pub overflow_add-d : goal.overflow_add-d
overflow_add-d c = omega (arith, c.loop-at.invariant.1.size)

pub bounds-d-to : goal.bounds-d-to
bounds-d-to c = omega (arith, c.loop-at.invariant.1.size)

pub overflow_add-d-else-n-at-ge16 : goal.overflow_add-d-else-n-at-ge16
overflow_add-d-else-n-at-ge16 c = omega (arith, c.loop-at.invariant.1.size)

pub bounds-d-from : goal.bounds-d-from
bounds-d-from c = omega (arith, c.loop-at.invariant.1.size)

pub overflow_add-d-else-n-at-ge16-2 : goal.overflow_add-d-else-n-at-ge16-2
overflow_add-d-else-n-at-ge16-2 c = omega (arith, c.loop-at.invariant.1.size)

pub bounds-d-to-else-n-at-ge16 : goal.bounds-d-to-else-n-at-ge16
bounds-d-to-else-n-at-ge16 c = omega (arith, c.loop-at.invariant.1.size)

pub overflow_add-at-else-n-at-ge16 : goal.overflow_add-at-else-n-at-ge16
overflow_add-at-else-n-at-ge16 c = omega arith

pub loop-at-smaller : goal.loop-at-smaller
loop-at-smaller c = omega arith

-- a byte
pub loop-at-preserved : goal.loop-at-preserved
loop-at-preserved c =
    let g = c.args in
    let l = c.loop-at in (
      omega arith,
      xored-more g.to l.at _ (moved g.from g.to g.d.now) g.d.now l.d (omega (arith, l.invariant.1.size))
          (ap (λ (i : ℕ). get_or g.d.now (g.from + i) 0) (behind-start g.to l.at) ∙ sym (l.invariant.1.outside (g.from + l.at) (λ x y. omega arith))) l.invariant.1,
    )

pub shape_of-d : goal.shape_of-d
shape_of-d c = c.loop-at.invariant.1.size

pub returns : goal.returns
returns c =
    let g = c.args in
    let l = c.loop-at in
    let e : l.at ≡ g.n = omega arith in
    subst (λ (i : ℕ). Xored g.to (g.to + i) (moved g.from g.to g.d.now) g.d.now l.d) e l.invariant.1
