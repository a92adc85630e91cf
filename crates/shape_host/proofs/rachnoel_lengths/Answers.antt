-- Each way out is one law of `Lengths`.
use Rattle.rules.proofs.RowLength.{row-max}
use Rattle.laws.proofs.Tests.{failed, passed}
use Rattle.shape_host.proofs.Lengths.{no-shape, no_row, other-slice, given}
use Rattle.shape_host.proofs.rachnoel_lengths.Goals as goal

pub returns-then-not-is_shape : goal.returns-then-not-is_shape
returns-then-not-is_shape c = no-shape _ _ c.resolve-s.ensures _ _ (failed c.is_shape.ensures c.if-not-is_shape.true)

pub returns-then-not-is_row_length : goal.returns-then-not-is_row_length
returns-then-not-is_row_length c =
    no_row _ _ c.resolve-s.ensures _ _ (passed c.is_shape.ensures c.if-not-is_shape.false) (failed c.is_row_length.ensures c.if-not-is_row_length.true)

pub returns-then-out-ne44 : goal.returns-then-out-ne44
returns-then-out-ne44 c =
    other-slice _ _ c.resolve-s.ensures _ _ (passed c.is_shape.ensures c.if-not-is_shape.false) (passed c.is_row_length.ensures c.if-not-is_row_length.false)
    c.if-out-ne44.true

pub length_words-words-requires : goal.length_words-words-requires
length_words-words-requires c =
    (passed c.is_shape.ensures c.if-not-is_shape.false, row-max _ (passed c.is_row_length.ensures c.if-not-is_row_length.false))

pub returns : goal.returns
returns c =
    given _ _ c.resolve-s.ensures _ _ (passed c.is_shape.ensures c.if-not-is_shape.false) (passed c.is_row_length.ensures c.if-not-is_row_length.false)
    c.if-out-ne44.false _ _ c.length_words-words.ensures c.put_list.ensures
