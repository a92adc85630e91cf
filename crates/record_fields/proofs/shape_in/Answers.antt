-- Each number is the one read.
use native.Mathlib.Omega.{arith}
use Rattle.record.specs.Record.{shape_in}
use Rattle.record_fields.proofs.Versions.{nine}
use Rattle.record_fields.proofs.shape_in.Goals as goal

pub bounds-head-0 : goal.bounds-head-0
bounds-head-0 c = (let m = nine c.args.version in omega arith)

pub bounds-head-1 : goal.bounds-head-1
bounds-head-1 c = (let m = nine c.args.version in omega arith)

pub bounds-head-2 : goal.bounds-head-2
bounds-head-2 c = (let m = nine c.args.version in omega arith)

pub number2-requires : goal.number2-requires
number2-requires c = (let m = nine c.args.version in omega arith)

pub returns : goal.returns
unfolding shape_in
returns c = cc
