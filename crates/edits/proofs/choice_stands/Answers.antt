use Rattle.edits.proofs.Chosen.{choice_stands}
use Rattle.edits.proofs.choice_stands.Goals as goal

pub returns : goal.returns
returns c = choice_stands
