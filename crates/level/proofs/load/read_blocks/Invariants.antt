use Rattle.std.proofs.Common.{◌≡◌, ◌+◌, ◌-◌, ◌*◌}
use Rattle.device.specs.Held.{shows}
use Rattle.volume.specs.Transfers.{readable}
use Rattle.level.specs.Loads.{Holds}
use Rattle.level.proofs.load.read_blocks.Given as goal

-- what is left to be read answers for all
abbrev pub invariant-loop-i : goal.invariant-loop-i
invariant-loop-i g l =
    (readable (shows (g.D.Device.held l.d)) (6 + l.i) (l.to - l.i) ≡ readable (shows (g.D.Device.held l.d)) (6 + l.from) (l.to - l.from))
    × Holds (shows (g.D.Device.held l.d)) (512 * l.i) l.work
