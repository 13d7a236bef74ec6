use Rattle.edits.proofs.Changes.{protect_keeps}
use Rattle.edits.proofs.protect_keeps.Goals as goal

pub returns : goal.returns
returns c = protect_keeps
