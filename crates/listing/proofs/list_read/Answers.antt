-- What is listed is the listing of the bytes read, and no byte behind the 64th changes a listing.
use mathlib.Core.Path.{◌≡◌, sym, ap, ◌∙◌}
use native.Mathlib.Omega.{arith}
use lib.ListN.{length}
use lib.Seq.{length-take-le}
use borrow.Author.Rules.{rules}
use Rattle.listing.specs.Listing.{listing}
use Rattle.listing.proofs.Lines.{first-64}
use Rattle.listing.proofs.list_read.Goals as goal

pub slice_bounds-list-end : goal.slice_bounds-list-end
slice_bounds-list-end c = (let a = c.args in let long : length a.read ≡ 64 = search rules in sym (length-take-le a.n a.read (omega arith)))

pub returns : goal.returns
returns c = (c.list.ensures.0, λ input e. c.list.ensures.1 ∙ ap listing (sym e) ∙ first-64 input, c.list.ensures.2)
