-- One store.
use Rattle.listing_text.proofs.Writing.{put_one}
use Rattle.listing_text.proofs.put_byte.Goals as goal

pub returns : goal.returns
returns c = put_one _ _ _ c.requires
