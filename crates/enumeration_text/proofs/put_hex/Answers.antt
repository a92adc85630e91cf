use mathlib.Core.Path.{◌≡◌, ◌∙◌}
use native.Mathlib.Omega.{arith}
use native.Mathlib.Numerals.{add-one}
use lib.ListN.{length}
use borrow.Author.Rules.{rules}
use Rattle.spec.specs.Bytes.{concat}
use Rattle.listing_text.proofs.Writing.{put-none, put_next}
use Rattle.enumeration_text.specs.Text.{hex_text}
use Rattle.enumeration_text.proofs.put_hex.Goals as goal

pub loop-byte-init : goal.loop-byte-init
unfolding concat
loop-byte-init c = (search rules, omega arith, put-none _ _)

pub put_hex_byte-end-requires : goal.put_hex_byte-end-requires
put_hex_byte-end-requires c = omega arith

pub loop-byte-preserved : goal.loop-byte-preserved
unfolding concat
loop-byte-preserved c =
    let l = c.loop-byte in
    let p = c.put_hex_byte-end in (
      p.auto.out ∙ l.invariant.0,
      omega (arith, p.ensures.end),
      rw add-one (put_next l.invariant.2 p.ensures),
    )

pub shape_of-out : goal.shape_of-out
shape_of-out c = c.loop-byte.invariant.0

pub returns : goal.returns
unfolding hex_text
returns c =
    let l = c.loop-byte in
    let e : l.byte-index ≡ length c.args.bytes.now = omega arith in
    rw e at l.invariant.2
