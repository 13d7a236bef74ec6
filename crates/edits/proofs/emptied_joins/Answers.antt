use Rattle.edits.proofs.Emptied.{emptied_joins}
use Rattle.edits.proofs.emptied_joins.Goals as goal

pub returns : goal.returns
returns c = emptied_joins
