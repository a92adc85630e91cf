-- The refusal, or a piece of the list.
use borrow.Author.Tests.{eq-eqb, ne_eqb}
use Rattle.listing_text.proofs.Writing.{put_front}
use Rattle.enumeration.specs.Pieces.{piece_text}
use Rattle.enumeration.proofs.put_piece.Goals as goal

pub returns-then-r-ne0 : goal.returns-then-r-ne0
unfolding piece_text
returns-then-r-ne0 c =
    rw (ne_eqb c.args.r.number 0 c.if-r-ne0.true) (put_front c.put_refused.ensures)

pub put_list_piece-requires : goal.put_list_piece-requires
put_list_piece-requires c =
    let q = c.requires.0.shape c.if-r-ne0.false in
    (q.0, q.1, c.requires.1)

pub returns : goal.returns
unfolding piece_text
returns c =
    rw (eq-eqb c.args.r.number 0 c.if-r-ne0.false) (put_front c.put_list_piece.ensures)
