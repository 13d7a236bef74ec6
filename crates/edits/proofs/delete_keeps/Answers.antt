use Rattle.edits.proofs.Changes.{delete_keeps}
use Rattle.edits.proofs.delete_keeps.Goals as goal

pub returns : goal.returns
returns c = delete_keeps
