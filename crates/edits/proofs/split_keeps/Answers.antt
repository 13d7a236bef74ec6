use Rattle.edits.proofs.Split.{split_keeps}
use Rattle.edits.proofs.split_keeps.Goals as goal

pub returns : goal.returns
returns c = split_keeps
