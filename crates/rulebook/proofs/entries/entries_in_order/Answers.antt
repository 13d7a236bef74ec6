use Rattle.rulebook.proofs.Ordering.{entries_in_order}
use Rattle.rulebook.proofs.entries.entries_in_order.Goals as goal

pub returns : goal.returns
returns c = entries_in_order
