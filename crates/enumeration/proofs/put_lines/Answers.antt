use Prim.Native.Nat.{◌-◌, ◌*◌, ◌≤◌}
use mathlib.Core.Path.{◌≡◌, ◌∙◌}
use native.Mathlib.Omega.{arith}
use native.Mathlib.Numerals.{add-one}
use borrow.Author.Rules.{rules}
use Rattle.spec.specs.Bytes.{concat}
use Rattle.listing_text.proofs.Writing.{put-none, put_next}
use Rattle.enumeration.proofs.put_lines.Goals as goal

pub loop-i-init : goal.loop-i-init
unfolding concat
loop-i-init c = (search rules, omega arith, put-none _ _)

pub overflow_add-from : goal.overflow_add-from
overflow_add-from c = omega (arith, c.requires.2)

pub put_line-end-requires : goal.put_line-end-requires
put_line-end-requires c =
    (c.requires.0, c.requires.1, omega (arith, c.requires.3))

pub loop-i-preserved : goal.loop-i-preserved
unfolding concat
loop-i-preserved c =
    let l = c.loop-i in
    let p = c.put_line-end in (
      p.auto.out ∙ l.invariant.0,
      omega (arith, p.ensures.1),
      rw add-one (put_next l.invariant.2 p.ensures.0),
    )

pub shape_of-out : goal.shape_of-out
shape_of-out c = c.loop-i.invariant.0

pub returns : goal.returns
returns c =
    let l = c.loop-i in
    let e : l.i ≡ c.args.n = omega arith in
    rw e at l.invariant.2
