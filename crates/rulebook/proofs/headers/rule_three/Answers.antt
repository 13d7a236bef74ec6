use Rattle.rulebook.proofs.Heading.{rule_three}
use Rattle.rulebook.proofs.headers.rule_three.Goals as goal

pub returns : goal.returns
returns c = rule_three
