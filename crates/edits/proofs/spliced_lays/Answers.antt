use Rattle.edits.proofs.Laid.{spliced_lays}
use Rattle.edits.proofs.spliced_lays.Goals as goal

pub returns : goal.returns
returns c = spliced_lays
