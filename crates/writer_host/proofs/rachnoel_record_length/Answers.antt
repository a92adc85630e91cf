-- Each way out is one law of the record's `Host`.
use Rattle.record.proofs.Host.{length-refused, length_three, length-given}
use Rattle.writer_host.proofs.rachnoel_record_length.Goals as goal

pub returns-then-n-ne0 : goal.returns-then-n-ne0
returns-then-n-ne0 c = length-refused _ _ _ _ c.record_length-n.ensures c.if-n-ne0.true

pub returns-then-length-ne4 : goal.returns-then-length-ne4
returns-then-length-ne4 c = length_three _ _ _ _ c.record_length-n.ensures c.if-n-ne0.false c.if-length-ne4.true

pub returns : goal.returns
returns c =
    length-given _ _ _ _ c.record_length-n.ensures c.if-n-ne0.false c.if-length-ne4.false _ c.put_list.ensures
