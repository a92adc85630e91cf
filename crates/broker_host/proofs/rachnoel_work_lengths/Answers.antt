-- Each way out is one law of the record's `Host`.
use Rattle.record.proofs.Host.{work-refused, work-three, work-given}
use Rattle.broker_host.proofs.rachnoel_work_lengths.Goals as goal

pub returns-then-l-ne0 : goal.returns-then-l-ne0
returns-then-l-ne0 c = work-refused _ _ _ c.work_lengths-l.ensures c.if-l-ne0.true

pub returns-then-lengths-ne12 : goal.returns-then-lengths-ne12
returns-then-lengths-ne12 c = work-three _ _ _ c.work_lengths-l.ensures c.if-l-ne0.false c.if-lengths-ne12.true

pub returns : goal.returns
returns c =
    work-given _ _ _ c.work_lengths-l.ensures c.if-l-ne0.false c.if-lengths-ne12.false _ c.put_list.ensures
