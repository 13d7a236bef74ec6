use Rattle.rulebook.proofs.Heading.{rule_five}
use Rattle.rulebook.proofs.headers.rule_five.Goals as goal

pub returns : goal.returns
returns c = rule_five
