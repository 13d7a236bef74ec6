use Rattle.places.proofs.Telling.{tentative_told}
use Rattle.places.proofs.tentative_told.Goals as goal

pub returns : goal.returns
returns c = tentative_told
