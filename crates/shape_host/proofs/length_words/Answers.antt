-- Each number is the one that the call beneath gives; those without a call are small, by the shape's rules.
use borrow.Author.Rules.{rules}
use native.Mathlib.Omega.{arith}
use Rattle.planning_laws.proofs.ShapeFacts.{shape-facts}
use Rattle.shape_host.proofs.Lengths.{words}
use Rattle.shape_host.proofs.length_words.Goals as goal

pub overflow_mul-result : goal.overflow_mul-result
overflow_mul-result c = (let q = shape-facts c.args.s c.requires.0 in omega arith)

pub overflow_cast-result-4 : goal.overflow_cast-result-4
overflow_cast-result-4 c = (let q = shape-facts c.args.s c.requires.0 in omega arith)

pub overflow_mul-result-2 : goal.overflow_mul-result-2
overflow_mul-result-2 c = (let q = shape-facts c.args.s c.requires.0 in omega arith)

pub overflow_cast-result-5 : goal.overflow_cast-result-5
overflow_cast-result-5 c = (let q = shape-facts c.args.s c.requires.0 in omega arith)

pub returns : goal.returns
returns c =
    words _ _ c.leaf_count.ensures.0 c.node_bytes.ensures.0 c.hash_bytes.ensures.0 c.tree_bytes.ensures.0
    c.leaf_commitments_bytes.ensures.0 c.matrix_bytes.ensures.0 c.corrections_bytes.ensures.0 c.opening_bytes.ensures.0
