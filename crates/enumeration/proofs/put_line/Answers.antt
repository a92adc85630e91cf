-- The line of the challenge's bytes and of their count.
use Rattle.enumeration.proofs.Counts.{line-is}
use Rattle.enumeration.proofs.put_line.Goals as goal

pub returns : goal.returns
returns c =
    let e = line-is c.args.s c.args.x c.count_of-count.result _ (c.challenge_at-challenge.ensures c.args.s c.requires.1) c.count_of-count.ensures.0 in
    (rw e at c.put_listed.ensures.0, c.put_listed.ensures.1)
