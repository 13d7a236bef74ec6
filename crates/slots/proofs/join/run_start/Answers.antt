use Rattle.std.proofs.Common.{rules}
use Rattle.edits.specs.Edits.{run_start}
use Rattle.slots.proofs.join.run_start.Goals as goal

pub returns-clause-start : goal.returns-clause-start
unfolding run_start
returns-clause-start c = search rules
