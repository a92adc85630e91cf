-- By the test of the number.
use Prim.Native.Nat.{ℕ, ◌*◌}
use mathlib.Core.Path.{refl, sym, ap, ◌∙◌}
use mathlib.Core.List.{◌++◌}
use native.Mathlib.Omega.{arith}
use lib.ListN.{take, drop}
use lib.Seq.{length-take-le}
use borrow.Author.Tests.{eq-eqb, ne_eqb}
use Rattle.spec.specs.HostCalls.{word_bytes}
use Rattle.host_words.proofs.put_list.Goals as goal

pub slice_bounds-put_words-end : goal.slice_bounds-put_words-end
slice_bounds-put_words-end c =
    let g = c.args in
    sym (length-take-le g.n g.words.now (c.requires c.if-number-eq0.true).0)

pub put_words-requires : goal.put_words-requires
put_words-requires c =
    let g = c.args in
    let p = c.requires c.if-number-eq0.true in
    omega (arith, length-take-le g.n g.words.now p.0, p.1)

pub returns-then-number-eq0 : goal.returns-then-number-eq0
returns-then-number-eq0 c =
    let g = c.args in
    rw (eq-eqb g.number 0 c.if-number-eq0.true)
    (c.put_words.ensures ∙ ap (λ (k : ℕ). word_bytes (take g.n g.words.now) ++ drop (4 * k) g.out.now) (length-take-le g.n g.words.now (c.requires c.if-number-eq0.true).0))

pub returns-else-number-eq0 : goal.returns-else-number-eq0
returns-else-number-eq0 c = rw (ne_eqb c.args.number 0 c.if-number-eq0.false) refl
