use Rattle.rulebook.proofs.Ordering.{entries_read}
use Rattle.rulebook.proofs.entries.entries_read.Goals as goal

pub returns : goal.returns
returns c = entries_read
