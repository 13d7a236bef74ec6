use Rattle.places.proofs.Telling.{empty_told}
use Rattle.places.proofs.empty_told.Goals as goal

pub returns : goal.returns
returns c = empty_told
