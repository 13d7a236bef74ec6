use Rattle.edits.proofs.Laid.{emptied_lays}
use Rattle.edits.proofs.emptied_lays.Goals as goal

pub returns : goal.returns
returns c = emptied_lays
