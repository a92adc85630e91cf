use mathlib.Core.Path.{sym, ◌∙◌}
use native.Mathlib.Omega.{arith}
use Rattle.planning_laws.proofs.Bits.{clear-start, clear-hit, clear-miss, clear_none}
use Rattle.challenge.proofs.clear.Goals as goal

pub loop-j-init : goal.loop-j-init
loop-j-init c = clear-start _ _ _

pub returns-then-bit-ne0 : goal.returns-then-bit-ne0
returns-then-bit-ne0 c =
    let a = c.args in
    let l = c.loop-j in
    clear-hit a.ch.now a.at a.n l.j c.bit.result (omega arith) l.invariant c.bit.ensures c.if-bit-ne0.true

pub loop-j-preserved : goal.loop-j-preserved
loop-j-preserved c =
    let a = c.args in
    let l = c.loop-j in
    clear-miss a.ch.now a.at a.n l.j c.bit.result (omega arith) l.invariant c.bit.ensures c.if-bit-ne0.false

pub returns : goal.returns
returns c = clear_none _ _ _ (omega arith) ∙ sym c.loop-j.invariant
