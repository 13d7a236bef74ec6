use Rattle.rulebook.proofs.Telling.{first-told}
use Rattle.rulebook.proofs.first.first_broken.Goals as goal

pub returns : goal.returns
returns c = first-told
