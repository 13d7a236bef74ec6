use Rattle.rulebook.proofs.Heading.{rule_two}
use Rattle.rulebook.proofs.headers.rule_two.Goals as goal

pub returns : goal.returns
returns c = rule_two
