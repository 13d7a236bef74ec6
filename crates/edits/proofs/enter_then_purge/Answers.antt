use Rattle.edits.proofs.Close.{enter_then_purge}
use Rattle.edits.proofs.enter_then_purge.Goals as goal

pub returns : goal.returns
returns c = enter_then_purge
