use Rattle.std.proofs.Common.{◌≡◌, ◌+◌, ◌-◌}
use Rattle.device.specs.Held.{shows}
use Rattle.volume.specs.Transfers.{readable}
use Rattle.volume.proofs.transfer.sweep.Given as goal

abbrev pub invariant-loop-k : goal.invariant-loop-k
invariant-loop-k g l = readable (shows (g.D.Device.held l.d)) l.k (l.b + l.n - l.k) ≡ readable (shows (g.D.Device.held l.d)) l.b l.n
