use Rattle.edits.proofs.Tested.{used_and_free}
use Rattle.edits.proofs.used_and_free.Goals as goal

pub returns : goal.returns
returns c = used_and_free
