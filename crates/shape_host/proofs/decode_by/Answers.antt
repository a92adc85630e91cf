-- The laws of decode in `Decode`.
use mathlib.Core.Path.{◌≡◌, sym, ◌∙◌}
use native.Mathlib.Omega.{arith}
use lib.ListN.{length-append}
use lib.Seq.{length-take-le}
use Rattle.shape_host.proofs.Decode.{decode-sized, decode-room, decode-host}
use Rattle.shape_host.proofs.decode_by.Goals as goal

pub slice_bounds-decode-end-2 : goal.slice_bounds-decode-end-2
slice_bounds-decode-end-2 c = sym (length-take-le c.numbers_in-n.result c.args.list.now (omega (arith, c.numbers_in-n.ensures.0, c.requires)))

pub put_list-requires : goal.put_list-requires
put_list-requires c z =
    let a = c.args in
    let r = decode-room a.shape a.challenge.now a.indices.now a.count.now _ _ _ c.numbers_in-n.result (length-take-le c.numbers_in-n.result c.args.list.now (omega (arith, c.numbers_in-n.ensures.0, c.requires))) c.numbers_in-n.ensures.1 c.decode-a.ensures z in
    (rw length-append (omega (arith, c.decode-a.auto.indices, (length-take-le c.numbers_in-n.result c.args.list.now (omega (arith, c.numbers_in-n.ensures.0, c.requires))))), omega arith)

pub give-requires : goal.give-requires
give-requires c =
    let a = c.args in
    decode-sized a.shape a.challenge.now a.indices.now a.count.now _ _ _ c.numbers_in-n.result (length-take-le c.numbers_in-n.result c.args.list.now (omega (arith, c.numbers_in-n.ensures.0, c.requires))) c.numbers_in-n.ensures.1 c.decode-a.ensures

pub returns : goal.returns
returns c =
    let a = c.args in
    rw c.give.ensures.0
    (decode-host a.shape a.challenge.now a.indices.now a.count.now _ _ _ c.numbers_in-n.result (length-take-le c.numbers_in-n.result c.args.list.now (omega (arith, c.numbers_in-n.ensures.0, c.requires))) c.numbers_in-n.ensures.1 c.decode-a.ensures _ _ _
    (c.decode-a.auto.indices ∙ (length-take-le c.numbers_in-n.result c.args.list.now (omega (arith, c.numbers_in-n.ensures.0, c.requires)))) c.put_list.ensures c.give.ensures.1)
