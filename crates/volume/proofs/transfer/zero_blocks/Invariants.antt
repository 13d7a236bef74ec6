use Rattle.std.proofs.Common.{◌≡◌, ◌+◌, ◌-◌, replicate}
use Rattle.device.specs.Held.{shows}
use Rattle.device.specs.Stacks.{Became}
use Rattle.volume.specs.Transfers.{overwritten}
use Rattle.volume.proofs.transfer.zero_blocks.Given as goal

abbrev pub invariant-loop-k : goal.invariant-loop-k
invariant-loop-k g l =
    Became (g.D.Device.held l.initial.d).stack (shows (g.D.Device.held l.d)) (g.D.Device.held l.d).stack
    × (overwritten (shows (g.D.Device.held l.d)) l.k (replicate (l.b + l.n - l.k) (replicate 512 0))
    ≡ overwritten (shows (g.D.Device.held l.initial.d)) l.b (replicate l.n (replicate 512 0)))
    × (g.D.Device.fixed l.d ≡ g.D.Device.fixed l.initial.d)
