use Rattle.places.proofs.Telling.{file_told}
use Rattle.places.proofs.file_told.Goals as goal

pub returns : goal.returns
returns c = file_told
