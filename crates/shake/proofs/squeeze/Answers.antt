use mathlib.Core.Path.{◌≡◌, refl, sym, ap, ◌∙◌}
use Prim.Native.Nat.{ℕ, suc, ◌+◌, ◌-◌, ◌*◌, ◌≤◌}
use native.Mathlib.Nat.{mul-zero, mul-suc}
use native.Mathlib.Omega.{arith}
use borrow.Rule.Slice.PartMut.{put_mid}
use mathlib.Core.List.{List}
use lib.ListN.{length}
use Rattle.spec.specs.Keccak.{keccak_f}
use Rattle.spec.specs.Bytes.{tabulate, part}
use Rattle.spec.specs.Sponge.{permuted, state_byte}
use Rattle.shake.proofs.Squeezing.{Squeezed, squeezed-none, squeezed-more, squeezed-all}
use Rattle.shake.proofs.squeeze.Goals as goal

-- behind the call that fills a part, that part begins a block, and the bytes up to its end are squeezed: at is the place of the part, n its length, q the
-- number of blocks before it, lanes the state at its block, old and new the buffer before and after the call
module _ (rate at n q : ℕ) (s out old lanes new : List ℕ) where
  abbrev More : Type 0
  More = Squeezed rate s out (put_mid at (at + n - at) old new) (at + n)

  more : n ≤ rate → at + n ≤ length out → at ≡ rate * q → lanes ≡ permuted q s → Squeezed rate s out old at
      → new ≡ tabulate (length (part old at (at + n - at))) (state_byte lanes) → More
  more small room begins state before made =
      let e : at + (at + n - at) ≡ at + n = omega arith in
      rw e at (squeezed-more rate s out old at q (at + n - at) lanes new before begins state (omega arith) (omega arith) made)

pub loop-at-init : goal.loop-at-init
unfolding permuted
loop-at-init c =
    let a = c.args in
    (squeezed-none a.rate a.lanes a.out.now, (0, refl, λ h. sym (mul-zero a.rate)))

pub loop-at-preserved-then-at-out : goal.loop-at-preserved-then-at-out
unfolding permuted
loop-at-preserved-then-at-out c =
    let a = c.args in
    let l = c.loop-at in
    let q = l.invariant.1 in
    let begins : l.at ≡ a.rate * q.0 = q.2 (omega arith) in
    let s = more a.rate l.at c.min-n.result q.0 a.lanes a.out.now l.out l.state c.squeeze_part.new.out (omega arith) (omega arith) begins q.1 l.invariant.0 c.squeeze_part.ensures in
    let next = mul-suc a.rate q.0 in
    (s, (suc q.0, c.keccak_f-next.ensures ∙ ap keccak_f q.1, λ h. omega arith))

pub loop-at-preserved : goal.loop-at-preserved
loop-at-preserved c =
    let a = c.args in
    let l = c.loop-at in
    let q = l.invariant.1 in
    let begins : l.at ≡ a.rate * q.0 = q.2 (omega arith) in
    let s = more a.rate l.at c.min-n.result q.0 a.lanes a.out.now l.out l.state c.squeeze_part.new.out (omega arith) (omega arith) begins q.1 l.invariant.0 c.squeeze_part.ensures in
    (s, (q.0, q.1, λ h. absurd (omega arith)))

pub returns : goal.returns
returns c =
    let a = c.args in
    let l = c.loop-at in
    squeezed-all a.rate a.lanes a.out.now l.out l.at l.invariant.0 c.loop-at-test.false
