use mathlib.Core.Path.{ap, ◌∙◌}
use native.Mathlib.Omega.{arith}
use lib.ListN.{length}
use Rattle.laws.proofs.Front.{front-none, front-set, front-all}
use Rattle.spec.specs.Bytes.{tabulate}
use Rattle.spec.specs.Shapes.{hidden_index, hidden_indices}
use Rattle.challenge.proofs.write_indices.Goals as goal

pub loop-i-init : goal.loop-i-init
loop-i-init c = front-none _ _

pub overflow_cast-index : goal.overflow_cast-index
overflow_cast-index c = omega (arith, c.hidden_index.ensures.2)

pub loop-i-preserved : goal.loop-i-preserved
loop-i-preserved c =
    let l = c.loop-i in
    let f = l.invariant.size in
    front-set (hidden_index _ _) _ l.i l.out _ (omega arith) l.invariant c.hidden_index.ensures.0

pub returns : goal.returns
unfolding hidden_indices
returns c =
    let l = c.loop-i in
    let f = l.invariant.size in
    front-all (hidden_index c.args.s c.args.ch.now) (length c.args.out.now) l.i l.out (omega arith) l.invariant
    ∙ ap (λ (n : _). tabulate n (hidden_index c.args.s c.args.ch.now)) c.requires.2
