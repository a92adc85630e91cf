-- A read puts its bytes behind those that were read before.
use Rattle.std.proofs.Common.{rules}
use Rattle.program_streams.proofs.Known.{consumes_more}
use Rattle.program_streams.proofs.read_start.Goals as goal

pub loop-n-preserved : goal.loop-n-preserved
loop-n-preserved g c =
    let before = c.loop-n.invariant in
    let read = c.in-Ok.ensures in
    (search rules, consumes_more _ _ _ c.loop-n.n c.in-Ok.more _ c.loop-n.buffer c.read.new.buf before.0 read.bound.0 before.1 read.bytes.0)
