use Rattle.std.proofs.Common.{rules}
use Rattle.std.proofs.lemmas.List.{places}
use Rattle.floppy.proofs.sectors.copy_sector.Goals as goal

pub returns : goal.returns
returns c = search (rules, places)
