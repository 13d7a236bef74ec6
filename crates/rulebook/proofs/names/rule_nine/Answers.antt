use Rattle.rulebook.proofs.Naming.{rule_nine}
use Rattle.rulebook.proofs.names.rule_nine.Goals as goal

pub returns : goal.returns
returns c = rule_nine
