use Rattle.carry.proofs.Carried.{carried_reads, carried_is_sound}
use Rattle.carry.proofs.carried_is_sound.Goals as goal

pub returns : goal.returns
returns c = record { reads = carried_reads; sound = carried_is_sound }
