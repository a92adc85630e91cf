-- Each way out is one law of `Fronts`, by the tests that led there.
use Prim.Native.Nat.{◌<◌}
use native.Mathlib.Omega.{arith}
use mathlib.Core.Path.{◌≡◌, sym, ap, ◌∙◌}
use lib.ListN.{length}
use Rattle.laws.proofs.Tests.{failed, passed}
use Rattle.record.specs.Fields.{field_ok, field_at}
use Rattle.record.specs.Record.{version_of, head_bytes}
use Rattle.record.proofs.Fields.{field_room}
use Rattle.record_fields.specs.Versions.{byte_of}
use Rattle.record_fields.proofs.Versions.{nine, named-byte, unnamed}
use Rattle.record_reading.specs.Front.{number_of}
use Rattle.record_reading.proofs.Fronts.{refused, no-version, no-head, head-long, front_read}
use Rattle.record_reading.proofs.front_of.Goals as goal
use Rattle.record_reading.proofs.front_of.Goals.{In-Some}

-- the version is that of the record's first byte, whose head is known
of : (c : In-Some) → byte_of c.in-Some.version ≡ version_of c.args.bytes.now
of c = named-byte _ _ c.in-Some.ensures ∙ c.version_of.ensures

known : (c : In-Some) → 0 < head_bytes (version_of c.args.bytes.now)
known c = (let m = nine c.in-Some.version in rw (← of c) (omega arith))

pub returns-in_default : goal.returns-in_default
unfolding number_of
returns-in_default c = refused _ _ (sym (no-version _ (ap head_bytes (sym c.version_of.ensures) ∙ unnamed _ c.in_default.ensures)))

pub returns-then-not-head_fits : goal.returns-then-not-head_fits
unfolding number_of
returns-then-not-head_fits c =
    let p = (goal.at.returns-then-not-head_fits c).In-Some in
    let e = c.head_length-h.ensures.0 ∙ ap head_bytes (of p) in
    refused _ _ (sym (no-head _ (known p) (failed (c.head_fits.ensures ∙ ap (field_ok _ 1) e) c.if-not-head_fits.true)))

pub head_of-requires : goal.head_of-requires
head_of-requires c = field_room _ 1 _ (passed c.head_fits.ensures c.if-not-head_fits.false)

pub front_in-requires : goal.front_in-requires
front_in-requires c =
    let p = (goal.at.front_in-requires c).In-Some in
    let e = c.head_length-h.ensures.0 ∙ ap head_bytes (of p) in
    let there = passed (c.head_fits.ensures ∙ ap (field_ok _ 1) e) c.if-not-head_fits.false in
    ap length (c.head_of.ensures ∙ ap (field_at c.args.bytes.now 1) e) ∙ rw (of p) (head-long _ (known p) there)

pub returns : goal.returns
returns c =
    let p = (goal.at.returns c).In-Some in
    let e = c.head_length-h.ensures.0 ∙ ap head_bytes (of p) in
    let there = passed (c.head_fits.ensures ∙ ap (field_ok _ 1) e) c.if-not-head_fits.false in
    let head = c.head_of.ensures ∙ ap (field_at c.args.bytes.now 1) e in
    let read = c.front_in.ensures in
    front_read _ (known p) there c.in-Some.version (of p) _ (rw (of p, head) at read.number) (rw head at read.says)
