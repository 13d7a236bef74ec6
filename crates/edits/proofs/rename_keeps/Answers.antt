use Rattle.edits.proofs.Changes.{rename_keeps}
use Rattle.edits.proofs.rename_keeps.Goals as goal

pub returns : goal.returns
returns c = rename_keeps
