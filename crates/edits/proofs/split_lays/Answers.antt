use Rattle.edits.proofs.Laid.{split_lays}
use Rattle.edits.proofs.split_lays.Goals as goal

pub returns : goal.returns
returns c = split_lays
