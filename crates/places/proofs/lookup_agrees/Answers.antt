use Rattle.places.proofs.Agreeing.{lookup_agrees}
use Rattle.places.proofs.lookup_agrees.Goals as goal

pub returns : goal.returns
returns c = lookup_agrees
