use borrow.Author.Rules.{rules}
use mathlib.Core.Path.{refl, ap, ◌∙◌}
use Prim.Native.Nat.{ℕ, ◌*◌, ◌^◌}
use native.Mathlib.Omega.{arith}
use mir.Syntax.{w8}
use lib.Bits.{bit_xor}
use lib.ListN.{set, replicate}
use Rattle.spec.specs.Bytes.{number}
use Rattle.spec.specs.Polynomials.{remainder}
use Rattle.laws.proofs.Limbs.{fits-digits}
use Rattle.field.proofs.Products.{entries-first, entries_next}
use Rattle.field.proofs.Elements.{key-below}
use Rattle.field.proofs.multiples.Goals as goal

pub loop-d-init : goal.loop-d-init
unfolding number
loop-d-init g c =
    let f = g.met.F.Field.laws in
    let key = c.args.key.now in
    entries-first f (number 8 key) (set (replicate 16 (replicate 12 0)) 1 c.padded.result) (key-below f key c.requires (fits-digits w8 key (λ k. search rules))) refl refl
    (c.padded.ensures ∙ c.element.ensures)

pub loop-d-preserved : goal.loop-d-preserved
loop-d-preserved g c =
    let f = g.met.F.Field.laws in
    let key = c.args.key.now in
    let l = c.loop-d in
    let shifted = c.times_alpha-shifted in
    entries_next f (number 8 key) l.t l.d shifted.result c.padded-in-loop-d.result (key-below f key c.requires (fits-digits w8 key (λ k. search rules))) (omega arith) (omega arith)
    (λ h. shifted.ensures ∙ ap (λ (x : ℕ). remainder g.F.Field.width g.F.Field.polynomial 1 (x * 2 ^ 1)) (c.limbs.ensures (rw (← f.width) h)))
    (λ h. c.padded-in-loop-d.ensures ∙ c.xor.ensures ∙ ap (bit_xor (number 64 shifted.result)) (c.limbs-in-loop-d.ensures (rw (← f.width) h))) l.invariant

pub returns : goal.returns
returns g c =
    let key = c.args.key.now in
    record { degree = key-below g.met.F.Field.laws key c.requires (fits-digits w8 key (λ k. search rules)); entry = λ d h. c.loop-d.invariant.1 d (omega arith) }
