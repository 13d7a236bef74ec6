use Rattle.rulebook.proofs.Naming.{rule_eight}
use Rattle.rulebook.proofs.names.rule_eight.Goals as goal

pub returns : goal.returns
returns c = rule_eight
