-- What the copies and H0 ensure, put together by the laws of `Hashed`.
use borrow.Author.Rules.{rules}
use lib.ListN.{length}
use mathlib.Core.Path.{◌≡◌}
use Rattle.leaf.proofs.Hashed.{seed-one, commitment-one}
use Rattle.leaf.proofs.hash_leaf.Goals as goal

pub returns : goal.returns
returns c =
    let g = c.args in
    let p = c.requires in
    let n = c.node_bytes-n in
    let first = c.copy_part in
    let message = c.copy_part-2 in
    let hash = c.h0 in
    let iv : length g.iv ≡ 16 = search rules in
    let r = c.rate_bytes in (
      seed-one g.s g.key.now g.iv g.message.now g.hashed.now g.seed.now g.out.now n.result r.result p.1 n.ensures.0 r.ensures.0 p.2 iv p.3 p.4 p.5 p.6 first.new.dst message.new.dst hash.new.out c.copy_part-3.new.dst c.copy_part-4.new.dst
          first.ensures message.ensures hash.ensures c.copy_part-3.ensures c.copy_part-4.ensures,
      commitment-one g.s g.key.now g.iv g.message.now g.hashed.now g.seed.now g.out.now n.result r.result p.1 n.ensures.0 r.ensures.0 p.2 iv p.3 p.4 p.5 p.6 first.new.dst message.new.dst hash.new.out c.copy_part-3.new.dst c.copy_part-4.new.dst
          first.ensures message.ensures hash.ensures c.copy_part-3.ensures c.copy_part-4.ensures,
    )
