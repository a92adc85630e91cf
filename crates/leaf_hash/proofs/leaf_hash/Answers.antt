-- In each branch the field is that of the level which led there.
use native.Mathlib.Omega.{arith}
use Rattle.leaf_hash.proofs.Levels.{field-128, field-192, field-256}
use Rattle.leaf_hash.proofs.leaf_hash.Goals as goal

pub leaf_hash-requires : goal.leaf_hash-requires
leaf_hash-requires c = (let f = field-128 c.args.s c.requires.1 c.if-s-eq128.true in (omega arith, omega arith))

pub returns-then-s-eq128 : goal.returns-then-s-eq128
returns-then-s-eq128 c =
    let f = field-128 c.args.s c.requires.1 c.if-s-eq128.true in
    λ u m. rw (f.commitment, f.width, f.polynomial, f.node) (c.leaf_hash.ensures u (rw (f.width, f.polynomial) at m))

pub leaf_hash-requires-then-s-eq192 : goal.leaf_hash-requires-then-s-eq192
leaf_hash-requires-then-s-eq192 c = (let f = field-192 c.args.s c.requires.1 c.if-s-eq192.true in (omega arith, omega arith))

pub returns-then-s-eq192 : goal.returns-then-s-eq192
returns-then-s-eq192 c =
    let f = field-192 c.args.s c.requires.1 c.if-s-eq192.true in
    λ u m. rw (f.commitment, f.width, f.polynomial, f.node) (c.leaf_hash-then-s-eq192.ensures u (rw (f.width, f.polynomial) at m))

pub leaf_hash-requires-2 : goal.leaf_hash-requires-2
leaf_hash-requires-2 c = (let f = field-256 c.args.s c.requires.0 c.requires.1 c.if-s-eq128.false c.if-s-eq192.false in (omega arith, omega arith))

pub returns : goal.returns
returns c =
    let f = field-256 c.args.s c.requires.0 c.requires.1 c.if-s-eq128.false c.if-s-eq192.false in
    λ u m. rw (f.commitment, f.width, f.polynomial, f.node) (c.leaf_hash-2.ensures u (rw (f.width, f.polynomial) at m))
