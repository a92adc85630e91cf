-- By the version that the byte names, or by the head of a byte that names none.
use native.Mathlib.Omega.{arith}
use mathlib.Core.Path.{sym, ap, ◌∙◌}
use Rattle.record.specs.Record.{head_bytes}
use Rattle.record_fields.proofs.Versions.{named-byte, unnamed}
use Rattle.record_fields.proofs.head_length.Goals as goal

pub returns-in_default : goal.returns-in_default
returns-in_default c = (sym (unnamed _ c.in_default.ensures), omega arith)

pub returns : goal.returns
returns c = (c.head_length.ensures.0 ∙ ap head_bytes (named-byte _ _ c.in-Some.ensures), c.head_length.ensures.2)
