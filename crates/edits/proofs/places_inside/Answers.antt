use Rattle.edits.proofs.Apart.{places_inside}
use Rattle.edits.proofs.places_inside.Goals as goal

pub returns : goal.returns
returns c = places_inside
