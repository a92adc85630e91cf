use mathlib.Core.Path.{◌≡◌, refl, subst}
use mathlib.Core.List.{List}
use Prim.Native.Nat.{ℕ, ◌+◌, ◌*◌, ◌-◌, ◌≤◌, ◌<◌, min}
use native.Mathlib.Omega.{arith}
use lib.ListN.{length, get_or}
use Rattle.aes_keys.specs.RoundKeys.{words}
use Rattle.job.specs.declared.Nonce.{Nonce}
use Rattle.job.specs.Versions.{block_of, byte_of}
use Rattle.generator.proofs.Blocks.{block-byte}
use Rattle.columns.specs.Columns.{Xored}
use Rattle.columns.proofs.Adding.{xored-none, xored-same, xored-then}
use Rattle.rows.proofs.add_row.Goals as goal

-- the row's bytes from byte `first` on, added up to `at`, and then up to `end` from byte `from` of block n on
block-added : (nk : ℕ) (seed : List ℕ) (x : Nonce) (first n from at end : ℕ) (block old mid new : List ℕ) → block ≡ block_of nk seed x n → first + at ≡ 16 * n + from
    → at ≤ end → end + from ≤ at + 16 → Xored 0 at (λ p. byte_of nk seed x (first + p)) old mid → Xored at end (λ p. get_or block (from + (p - at)) 0) mid new
    → Xored 0 end (λ p. byte_of nk seed x (first + p)) old new
block-added nk seed x first n from at end block old mid new e place h within before added =
    xored-then 0 at end (λ p. byte_of nk seed x (first + p)) old mid new (omega arith) h before
    (xored-same at end end (λ p. byte_of nk seed x (first + p)) (λ p. get_or block (from + (p - at)) 0) mid new refl
    (λ p a b. block-byte nk seed x block n from (p - at) (first + p) e (omega arith) (omega arith)) added)

-- two blocks bring the end nearer
nearer : (b at from long mid n end : ℕ) → at < b → from < 16 → long ≡ b → mid ≡ at + min (16 - from) (long - at) → end ≡ mid + n → b - end < b - at
nearer b at from long mid n end h hf el em ee = omega arith

pub loop-at-init : goal.loop-at-init
loop-at-init c = (omega arith, xored-none 0 _ _)

pub loop-at-smaller-then-from-b : goal.loop-at-smaller-then-from-b
loop-at-smaller-then-from-b c =
    let l = c.loop-at in
    nearer _ l.at _ _ _ _ _ c.loop-at-test.true (omega arith) l.invariant.1.size
    c.add_block-mid.ensures.0 c.add_block-at.ensures.0

pub loop-at-preserved-then-from-b : goal.loop-at-preserved-then-from-b
loop-at-preserved-then-from-b c =
    let g = c.args in
    let l = c.loop-at in
    let pair = c.block_pair-pair.ensures in
    let seed = g.seed.now in
    let expands = c.new-schedule.ensures in
    let added = block-added (words seed) seed g.x g.first in
    let one = c.add_block-mid.ensures in
    let two = c.add_block-at.ensures in
    let size = l.invariant.1.size in
    let size2 = one.1.size in (
      omega (arith, two.0, one.0),
      added _ _ _ _ _ _ _ _ (pair.second _ _ expands) (omega (arith, one.0)) (omega (arith, two.0)) (omega (arith, two.0))
          (added _ _ _ _ _ _ _ _ (pair.first _ _ expands) (omega arith) (omega (arith, one.0)) (omega (arith, one.0)) l.invariant.1 one.1)
          two.1,
    )

pub loop-at-preserved : goal.loop-at-preserved
loop-at-preserved c =
    let g = c.args in
    let l = c.loop-at in
    let block = c.block-block.ensures _ _ c.new-schedule.ensures in
    let one = c.add_block-at-else-from-b.ensures in
    let size = l.invariant.1.size in (
      omega (arith, one.0),
      block-added (words g.seed.now) g.seed.now g.x g.first _ _ _ _ _ _ _ _ block (omega arith) (omega (arith, one.0)) (omega (arith, one.0)) l.invariant.1 one.1,
    )

pub shape_of-sum : goal.shape_of-sum
shape_of-sum c = c.loop-at.invariant.1.size

pub returns : goal.returns
returns c = λ nk four.
    let g = c.args in
    let l = c.loop-at in
    let e : l.at ≡ length g.sum.now = omega arith in
    let d : words g.seed.now ≡ nk = omega arith in
    let f : ℕ → ℕ → Type 0 = λ m n. Xored 0 n (λ p. byte_of m g.seed.now g.x (g.first + p)) g.sum.now l.sum in
    subst (λ (n : ℕ). f nk n) e (subst (λ (m : ℕ). f m l.at) d l.invariant.1)
