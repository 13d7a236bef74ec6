use Rattle.edits.proofs.Tested.{initial-lawful}
use Rattle.edits.proofs.initial_lawful.Goals as goal

pub returns : goal.returns
returns c = initial-lawful
