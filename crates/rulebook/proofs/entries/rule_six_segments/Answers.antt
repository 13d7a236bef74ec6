use Rattle.rulebook.proofs.Listing.{rule_six-segments}
use Rattle.rulebook.proofs.entries.rule_six_segments.Goals as goal

pub returns : goal.returns
returns c = rule_six-segments
