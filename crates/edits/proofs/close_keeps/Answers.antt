use Rattle.edits.proofs.Close.{close_keeps}
use Rattle.edits.proofs.close_keeps.Goals as goal

pub returns : goal.returns
returns c = close_keeps
