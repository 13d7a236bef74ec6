use Rattle.device.specs.Held.{shows}
use Rattle.floppy.proofs.Places.{Gathered}
use Rattle.floppy.proofs.Floppy.gather.Given as goal

abbrev pub invariant-loop-i : goal.invariant-loop-i
invariant-loop-i g l = Gathered (shows (g.D.Device.held l.self.below)) l.b l.i l.held l.bytes
