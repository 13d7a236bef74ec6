use Rattle.edits.proofs.Close.{enter_then_close}
use Rattle.edits.proofs.enter_then_close.Goals as goal

pub returns : goal.returns
returns c = enter_then_close
