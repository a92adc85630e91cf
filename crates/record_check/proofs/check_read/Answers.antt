-- What is not read is one law of `Answers`, by what the reader found; the rest is what `check_fields` promises.
use native.Mathlib.Omega.{arith}
use Prim.Native.Nat.{ℕ}
use mathlib.Core.Path.{refl, sym, ap, ◌∙◌}
use mathlib.Core.Bool.{Bool, true, false, cond}
use Rattle.laws.proofs.Tests.{failed, passed}
use Rattle.record_reading.specs.Front.{number_of}
use Rattle.record_check.proofs.Answers.{check-read}
use Rattle.record_check.proofs.check_read.Goals as goal

abbrev number_by : Bool → ℕ
number_by b = cond b 0 10

pub sizes_of-z-requires : goal.sizes_of-z-requires
sizes_of-z-requires c = (c.requires.allowed, c.requires.few)

pub is_read-requires : goal.is_read-requires
is_read-requires c = c.sizes_of-z.ensures _ c.requires

pub returns-then-not-is_read : goal.returns-then-not-is_read
unfolding number_of
returns-then-not-is_read c =
    check-read _ _ _ 10 (sym (c.is_read.ensures ∙ ap number_by {x = c.is_read.result} {y = false} (failed refl c.if-not-is_read.true))) (λ z. omega arith) c.from.ensures

pub check_fields-requires : goal.check_fields-requires
check_fields-requires c =
    (c.requires, c.sizes_of-z.ensures _ c.requires, c.is_read.ensures ∙ ap number_by {x = c.is_read.result} {y = true} (passed refl c.if-not-is_read.false))

pub returns : goal.returns
returns c = c.check_fields.ensures
