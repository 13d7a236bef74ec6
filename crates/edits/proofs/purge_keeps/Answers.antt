use Rattle.edits.proofs.Changes.{purge_keeps}
use Rattle.edits.proofs.purge_keeps.Goals as goal

pub returns : goal.returns
returns c = purge_keeps
