use Rattle.places.proofs.Starting.{first_starts}
use Rattle.places.proofs.first_starts.Goals as goal

pub returns : goal.returns
returns c = first_starts
