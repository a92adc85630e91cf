-- In each branch the field is that of the level which led there.
use native.Mathlib.Omega.{arith}
use Rattle.leaf_hash.proofs.Levels.{field-128, field-192, field-256}
use Rattle.leaf_hash.proofs.multiples.Goals as goal

pub multiples-requires : goal.multiples-requires
multiples-requires c = (let f = field-128 c.args.s c.requires.1 c.if-s-eq128.true in omega arith)

pub returns-then-s-eq128 : goal.returns-then-s-eq128
returns-then-s-eq128 c = (let f = field-128 c.args.s c.requires.1 c.if-s-eq128.true in rw (f.width, f.polynomial) c.multiples.ensures)

pub multiples-requires-then-s-eq192 : goal.multiples-requires-then-s-eq192
multiples-requires-then-s-eq192 c = (let f = field-192 c.args.s c.requires.1 c.if-s-eq192.true in omega arith)

pub returns-then-s-eq192 : goal.returns-then-s-eq192
returns-then-s-eq192 c = (let f = field-192 c.args.s c.requires.1 c.if-s-eq192.true in rw (f.width, f.polynomial) c.multiples-then-s-eq192.ensures)

pub multiples-requires-2 : goal.multiples-requires-2
multiples-requires-2 c = (let f = field-256 c.args.s c.requires.0 c.requires.1 c.if-s-eq128.false c.if-s-eq192.false in omega arith)

pub returns : goal.returns
returns c = (let f = field-256 c.args.s c.requires.0 c.requires.1 c.if-s-eq128.false c.if-s-eq192.false in rw (f.width, f.polynomial) c.multiples-2.ensures)
