-- Four stores write the four digits.
use Rattle.host_words.proofs.Words.{stored}
use Rattle.host_words.proofs.put_word.Goals as goal

pub returns : goal.returns
returns c = stored c.args.x c.args.out.now c.requires
