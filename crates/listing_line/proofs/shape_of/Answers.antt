-- Each number is read of the text behind as many numbers.
use Rattle.listing_line.specs.Line.{behind, shape_of}
use Rattle.listing_line.proofs.shape_of.Goals as goal

pub number_of-requires : goal.number_of-requires
unfolding behind
number_of-requires c = c.requires.tau

pub number_of-requires-2 : goal.number_of-requires-2
number_of-requires-2 c = rw c.behind.ensures c.requires.k

pub number_of-requires-3 : goal.number_of-requires-3
number_of-requires-3 c = rw c.behind-2.ensures c.requires.w

pub number_of-requires-4 : goal.number_of-requires-4
number_of-requires-4 c = rw c.behind-3.ensures c.requires.t

pub returns : goal.returns
unfolding shape_of behind
returns c = cc
