use Rattle.edits.proofs.Tested.{lawful-decided}
use Rattle.edits.proofs.lawful_decided.Goals as goal

pub returns : goal.returns
returns c = lawful-decided
