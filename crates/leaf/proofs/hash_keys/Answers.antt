-- H0 where the leaves are ordinary, nothing where they are not.
use mathlib.Core.Path.{sym, ◌∙◌}
use Rattle.leaf.proofs.Keys.{keys-made, keys_none}
use Rattle.leaf.proofs.hash_keys.Goals as goal

pub h0-requires : goal.h0-requires
h0-requires c = (let r = c.rate_bytes.ensures in (r.2, r.1))

pub returns-then-is_ordinary : goal.returns-then-is_ordinary
returns-then-is_ordinary c =
    let r = c.rate_bytes in
    keys-made c.args.s c.args.iv.now _ r.result _ r.ensures.0 c.requires.1 c.h0.ensures

pub returns-else-is_ordinary : goal.returns-else-is_ordinary
returns-else-is_ordinary c =
    keys_none c.args.s c.args.iv.now _ (sym c.is_ordinary.ensures ∙ c.if-is_ordinary.false) c.requires.1
