use Rattle.rulebook.proofs.Opening.{rule_six_statuses}
use Rattle.rulebook.proofs.entries.rule_six_statuses.Goals as goal

pub returns : goal.returns
returns c = rule_six_statuses
