use Rattle.edits.proofs.Enter.{enter_opens}
use Rattle.edits.proofs.enter_opens.Goals as goal

pub returns : goal.returns
returns c = enter_opens
