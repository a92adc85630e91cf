use Prim.Native.Nat.{ℕ, ◌+◌, ◌-◌, ◌*◌}
use mathlib.Core.Path.{◌≡◌, refl, ap, ap₂, ◌∙◌}
use mathlib.Core.List.{List, ◌++◌}
use native.Mathlib.Omega.{arith}
use lib.ListN.{length, take, drop, length-drop}
use lib.Seq.{take-length, length-take-le}
use Rattle.spec.specs.HostCalls.{word_bytes}
use Rattle.host_words.proofs.Words.{words-to-length, words-next}
use Rattle.host_words.proofs.put_words.Goals as goal

pub loop-i-init : goal.loop-i-init
unfolding word_bytes
loop-i-init c = (refl, refl)

pub overflow_mul-at : goal.overflow_mul-at
overflow_mul-at c = omega arith

pub overflow_add-at : goal.overflow_add-at
overflow_add-at c = omega arith

pub slice_bounds-put_word-count : goal.slice_bounds-put_word-count
slice_bounds-put_word-count c = omega arith

pub slice_bounds-put_word-start : goal.slice_bounds-put_word-start
slice_bounds-put_word-start c = omega arith

pub slice_bounds-put_word-end : goal.slice_bounds-put_word-end
slice_bounds-put_word-end c = omega arith

pub put_word-requires : goal.put_word-requires
put_word-requires c =
    let l = c.loop-i in
    length-take-le (4 * l.i + 4 - 4 * l.i) (drop (4 * l.i) l.out) (omega (arith, length-drop (4 * l.i) l.out)) ∙ omega arith

pub loop-i-preserved : goal.loop-i-preserved
loop-i-preserved c =
    let l = c.loop-i in
    let next =
    words-next c.args.words.now c.args.out.now l.i l.out c.put_word.new.out (4 * l.i + 4 - 4 * l.i) (omega arith) (omega arith) l.invariant.1
    c.put_word.ensures in
    (ap length next ∙ words-to-length c.args.words.now c.args.out.now (l.i + 1) (omega arith) c.requires, next)

pub shape_of-out : goal.shape_of-out
shape_of-out c = c.loop-i.invariant.0

pub returns : goal.returns
returns c =
    let a = c.args in
    let l = c.loop-i in
    let e : l.i ≡ length a.words.now = omega arith in
    l.invariant.1 ∙ ap₂ (λ (xs : List ℕ) (n : ℕ). word_bytes xs ++ drop (4 * n) a.out.now) (ap (λ (n : ℕ). take n a.words.now) e ∙ take-length a.words.now) e
