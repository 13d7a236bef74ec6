use Rattle.edits.proofs.Choices.{asks_get}
use Rattle.edits.proofs.asks_get.Goals as goal

pub returns : goal.returns
returns c = asks_get
