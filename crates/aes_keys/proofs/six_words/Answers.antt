-- Word by word.
use Rattle.aes_keys.proofs.six_words.Goals as goal

pub returns : goal.returns
returns c = cc (c.word.ensures, c.word-2.ensures, c.word-3.ensures, c.word-4.ensures, c.word-5.ensures, c.word-6.ensures)
