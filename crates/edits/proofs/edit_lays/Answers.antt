use Rattle.edits.proofs.Laid.{edit_lays}
use Rattle.edits.proofs.edit_lays.Goals as goal

pub returns : goal.returns
returns c = edit_lays
