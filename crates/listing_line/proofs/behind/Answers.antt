use Prim.Native.Nat.{ℕ}
use mathlib.Core.Path.{◌≡◌, sym, ap, ◌∙◌}
use native.Mathlib.Omega.{arith}
use borrow.Author.Rules.{rules}
use Rattle.listing_line.specs.Line.{after_number, behind}
use Rattle.listing_line.proofs.Numbers.{behind_more}
use Rattle.listing_line.proofs.behind.Goals as goal

pub loop-i-init : goal.loop-i-init
unfolding behind
loop-i-init c = search rules

pub after_number-text-requires : goal.after_number-text-requires
after_number-text-requires c = tt

pub loop-i-preserved : goal.loop-i-preserved
loop-i-preserved c =
    let l = c.loop-i in
    c.after_number-text.ensures ∙ ap after_number l.invariant ∙ sym (behind_more l._i _)

pub returns : goal.returns
returns c =
    let l = c.loop-i in
    let a = c.args in
    let e : l._i ≡ a.n = omega arith in
    l.invariant ∙ ap (λ (n : ℕ). behind n a.input.now) e
