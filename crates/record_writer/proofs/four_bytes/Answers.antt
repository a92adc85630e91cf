-- The four quotients, each modulo 256.
use Rattle.record_writer.proofs.Putting.{four-of}
use Rattle.record_writer.proofs.four_bytes.Goals as goal

pub returns : goal.returns
returns c = cc (four-of c.args.n)
