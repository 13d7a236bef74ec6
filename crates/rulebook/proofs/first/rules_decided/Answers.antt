use Rattle.rulebook.proofs.Telling.{rules_decided}
use Rattle.rulebook.proofs.first.rules_decided.Goals as goal

pub returns : goal.returns
returns c = rules_decided
