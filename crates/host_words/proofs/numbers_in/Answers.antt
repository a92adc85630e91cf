-- Where `most` is given both tests fail; n / 4 is m exactly where n is 4 m.
use native.Mathlib.Omega.{arith}
use borrow.Author.Tests.{eq-eqb, ne_eqb}
use Rattle.host_words.proofs.Words.{no-list, quarter}
use Rattle.host_words.proofs.numbers_in.Goals as goal

pub returns-then-count-ne4 : goal.returns-then-count-ne4
returns-then-count-ne4 c = (let a = c.args in (omega arith, λ m l. rw (ne_eqb a.count 4 c.if-count-ne4.true) (ne_eqb a.most m (omega arith))))

pub returns-then-n-ne0 : goal.returns-then-n-ne0
returns-then-n-ne0 c =
    let a = c.args in
    (omega arith, λ m l. rw (eq-eqb a.count 4 c.if-count-ne4.false) (no-list a.most a.n m l (omega arith)))

pub returns-then-most-n : goal.returns-then-most-n
returns-then-most-n c =
    let a = c.args in
    (omega arith, λ m l. rw (eq-eqb a.count 4 c.if-count-ne4.false) (no-list a.most a.n m l (omega arith)))

pub returns : goal.returns
returns c =
    let a = c.args in
    (omega arith, λ m l. rw (eq-eqb a.count 4 c.if-count-ne4.false) (quarter a.n m c.if-n-ne0.false))
