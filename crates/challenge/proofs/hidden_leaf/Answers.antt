-- The leaf of the hidden index.
use mathlib.Core.Path.{ap, ◌∙◌}
use Rattle.spec.specs.Shapes.{leaf_of, hidden_leaf}
use Rattle.challenge.proofs.hidden_leaf.Goals as goal

pub returns : goal.returns
unfolding hidden_leaf
returns c =
    let a = c.args in
    (c.leaf_of.ensures.0 ∙ ap (leaf_of a.s a.i) c.hidden_index-j.ensures.0, c.leaf_of.ensures.3, c.leaf_of.ensures.2)
