-- By whether i is one of the pieces with lines.
use native.Mathlib.Omega.{arith}
use Prim.Native.Nat.{ℕ, ◌-◌, ◌*◌, ◌^◌, ◌<◌, ◌≤◌, min}
use mathlib.Core.Path.{◌≡◌, ap, ◌∙◌}
use borrow.Author.Rules.{rules}
use borrow.Author.Tests.{lt-ltb, le-ltb}
use Rattle.enumeration_text.specs.Listed.{open_bits}
use Rattle.enumeration.specs.Pieces.{line_pieces}
use Rattle.enumeration.proofs.Readings.{level-128}
use Rattle.enumeration.proofs.put_list_piece.Goals as goal

pub put_lines-requires : goal.put_lines-requires
put_lines-requires c =
    (search rules, level-128 c.args.s c.requires.0 c.requires.1, search rules, search rules)

pub returns-then-i-line_pieces : goal.returns-then-i-line_pieces
returns-then-i-line_pieces c =
    let a = c.args in
    let h : a.i < line_pieces a.s = rw c.line_pieces.ensures.0 at c.if-i-line_pieces.true in
    let n : c.min-n.result ≡ min 1024 (2 ^ open_bits a.s - 1024 * a.i) = (let m = c.min-n.ensures in let l = c.line_count.ensures.0 in omega arith) in
    rw (lt-ltb a.i (line_pieces a.s) h, ← n) c.put_lines.ensures

pub returns : goal.returns
returns c =
    let a = c.args in
    let h : line_pieces a.s ≤ a.i = rw c.line_pieces.ensures.0 at c.if-i-line_pieces.false in
    rw (le-ltb a.i (line_pieces a.s) h) c.put_totals.ensures
