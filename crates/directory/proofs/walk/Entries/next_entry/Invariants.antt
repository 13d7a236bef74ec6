use Rattle.std.proofs.Common.{◌≡◌}
use Rattle.directory.specs.Walks.{spot, left, chained, OnWay}
use Rattle.directory.proofs.walk.Entries.next_entry.Given as goal

abbrev pub invariant-loop-place : goal.invariant-loop-place
invariant-loop-place l =
    OnWay l.self.extra l.self.dir.now l.self.order.now (spot l.place l.index l.self.at.start)
    × (left l.self.extra l.self.dir.now l.self.order.now (spot l.place l.index l.self.at.start) ≡ left l.self.extra l.self.dir.now l.self.order.now l.self.at)
    × (chained l.self.extra l.self.dir.now l.self.order.now (spot l.place l.index l.self.at.start) ≡ chained l.self.extra l.self.dir.now l.self.order.now l.self.at)
