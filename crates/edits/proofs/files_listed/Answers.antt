use Rattle.edits.proofs.Tested.{files-listed}
use Rattle.edits.proofs.files_listed.Goals as goal

pub returns : goal.returns
returns c = files-listed
