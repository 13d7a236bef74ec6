use Rattle.edits.proofs.Apart.{places_apart}
use Rattle.edits.proofs.places_apart.Goals as goal

pub returns : goal.returns
returns c = places_apart
