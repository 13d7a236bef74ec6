use Rattle.codec.proofs.Spellings.{words_come_back}
use Rattle.codec.proofs.name.words_come_back.Goals as goal

pub returns : goal.returns
returns c = words_come_back
