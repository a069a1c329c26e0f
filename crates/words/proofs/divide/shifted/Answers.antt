-- `words::divide::shifted` meets its contract. Assumes nothing.
use Rattle.words.proofs.divide.Laws.{shifted_words}
use Rattle.words.proofs.divide.shifted.Goals as goal

pub returns : goal.returns
returns c = shifted_words c.args.x c.args.s c.requires
