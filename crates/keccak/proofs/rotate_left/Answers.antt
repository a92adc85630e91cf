-- `keccak::rotate_left` meets its contract, by the law that two shifts joined by `|` are a rotation.
use Rattle.keccak.proofs.Rotation.{rotl-or}
use Rattle.keccak.proofs.rotate_left.Goals as goal

pub returns : goal.returns
returns c = rotl-or c.args.n c.args.x c.requires.0 c.requires.1 c.ranges.x.fits
