use mathlib.Core.Path.{◌∙◌}
use native.Mathlib.Omega.{arith}
use native.Mathlib.Numerals.{add-one}
use lib.Seq.{take-suc, take_all}
use borrow.Author.Rules.{rules}
use Rattle.listing_text.proofs.Writing.{put-none, put_next}
use Rattle.listing_text.proofs.put_bytes.Goals as goal

pub loop-byte-init : goal.loop-byte-init
loop-byte-init c = (search rules, omega arith, put-none _ _)

pub put_byte-end-requires : goal.put_byte-end-requires
put_byte-end-requires c = omega arith

pub loop-byte-preserved : goal.loop-byte-preserved
loop-byte-preserved c =
    let bytes = c.args.bytes.now in
    let l = c.loop-byte in
    let p = c.put_byte-end in (
      p.auto.out ∙ l.invariant.0,
      omega (arith, p.ensures.end),
      rw (add-one, take-suc bytes l.byte-index 0 c.loop-byte-test.true) (put_next l.invariant.2 p.ensures),
    )

pub shape_of-out : goal.shape_of-out
shape_of-out c = c.loop-byte.invariant.0

pub returns : goal.returns
returns c =
    let l = c.loop-byte in
    rw (take_all l.byte-index c.args.bytes.now c.loop-byte-test.false) at l.invariant.2
