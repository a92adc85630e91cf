use Rattle.std.proofs.Common.{ℕ, ◌+◌, refl, arith, rules}
use Rattle.job.specs.Versions.{byte_of}
use Rattle.laws.proofs.Front.{front-none, front-all}
use Rattle.generator.proofs.Blocks.{block-byte}
use Rattle.generator.proofs.fill_keyed.Goals as goal

pub loop-p-init : goal.loop-p-init
loop-p-init c = (omega arith, refl, λ nk key e. front-none _ _)

pub loop-p-smaller : goal.loop-p-smaller
loop-p-smaller c =
    let l = c.loop-p in
    let on = c.store-mid.ensures.some (omega arith) in
    let further = c.store-p.ensures.forward in
    omega arith

pub loop-p-preserved : goal.loop-p-preserved
loop-p-preserved c =
    let a = c.args in
    let l = c.loop-p in
    let one = c.store-mid in
    let two = c.store-p in
    let size = l.invariant.1 in (
      omega (arith, two.ensures.inside),
      search rules,
      λ nk key e.
          let pair = c.block_pair-pair.ensures in
          let f : ℕ → ℕ = λ q. byte_of nk key a.x (a.first + q) in
          let byte = block-byte nk key a.x in
          two.ensures.written f _ (λ i h room. byte _ _ _ i _ (pair.second nk key e) (omega (arith, one.ensures.whole (omega arith))) h)
          (one.ensures.written f _ (λ i h room. byte _ _ _ i _ (pair.first nk key e) (omega arith) h) (l.invariant.2 nk key e)),
    )

pub returns : goal.returns
returns c = λ nk key e.
    let l = c.loop-p in
    let size = l.invariant.1 in
    front-all _ _ l.p l.out (omega arith) (l.invariant.2 nk key e)
