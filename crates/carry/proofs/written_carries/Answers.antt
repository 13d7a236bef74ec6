use Rattle.carry.proofs.Writes.{written_carries}
use Rattle.carry.proofs.Altered.{altered_carries}
use Rattle.carry.proofs.Parted.{parted_carries}
use Rattle.carry.proofs.written_carries.Goals as goal

pub returns : goal.returns
returns c = record { any = written_carries; one = altered_carries; two = parted_carries }
