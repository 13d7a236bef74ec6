use Rattle.edits.proofs.Laid.{spliced-two_lays}
use Rattle.edits.proofs.spliced_two_lays.Goals as goal

pub returns : goal.returns
returns c = spliced-two_lays
