use Rattle.std.proofs.Common.{◌≡◌}
use Rattle.floppy.proofs.Scattered.{Scattered}
use Rattle.floppy.proofs.Floppy.scatter.Given as goal

abbrev pub invariant-loop-n : goal.invariant-loop-n
invariant-loop-n g l =
    Scattered (g.D.Device.held l.initial.self.below).stack l.b l.from l.n l.held (g.D.Device.held l.self.below).stack
    × (g.D.Device.fixed l.self.below ≡ g.D.Device.fixed l.initial.self.below)
