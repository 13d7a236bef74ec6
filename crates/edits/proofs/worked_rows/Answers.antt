use Rattle.std.proofs.Common.{refl}
use Rattle.edits.specs.Asks.{places_in, places_from, first_of, largest, others}
use Rattle.edits.proofs.worked_rows.Goals as goal

pub returns : goal.returns
unfolding places_in places_from first_of largest others
returns c = (refl, refl, refl)
