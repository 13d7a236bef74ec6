use Rattle.rulebook.proofs.Heading.{rule_seven}
use Rattle.rulebook.proofs.headers.rule_seven.Goals as goal

pub returns : goal.returns
returns c = rule_seven
