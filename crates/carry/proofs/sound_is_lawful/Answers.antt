use Rattle.carry.proofs.Sound.{sound_is_lawful}
use Rattle.carry.proofs.sound_is_lawful.Goals as goal

pub returns : goal.returns
returns c = sound_is_lawful
