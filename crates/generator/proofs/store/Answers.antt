-- Where `from` is 0 the whole block is stored, else byte by byte; the test says which.
use Rattle.generator.proofs.store.Goals as goal

pub returns-then-out-p-ge16 : goal.returns-then-out-p-ge16
returns-then-out-p-ge16 c = rw c.if-from-eq0.true c.store_whole.ensures
