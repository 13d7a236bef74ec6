use Rattle.std.proofs.Common.{arith}
use Rattle.floppy.specs.Floppies.{sector}
use Rattle.floppy.proofs.sectors.sector_at.Goals as goal

pub returns : goal.returns
unfolding sector
returns c = record { place = omega arith; below = omega arith }
