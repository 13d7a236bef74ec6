use Rattle.rulebook.proofs.Heading.{rule_one}
use Rattle.rulebook.proofs.headers.rule_one.Goals as goal

pub returns : goal.returns
returns c = rule_one
