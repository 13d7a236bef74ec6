use Rattle.std.proofs.Common.{rules}
use Rattle.std.proofs.lemmas.List.{take_rest}
use Rattle.edits.specs.Edits.{run_end}
use Rattle.slots.proofs.join.run_end.Goals as goal

pub returns-clause-end : goal.returns-clause-end
unfolding run_end
returns-clause-end c = search (rules, take_rest)
