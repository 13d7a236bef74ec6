use Rattle.std.proofs.Common.{◌≡◌, ◌+◌, ◌*◌, ◌≤◌, drop}
use Rattle.directory.specs.Rules.{contiguous_from}
use Rattle.directory.proofs.rules.Lawful.contiguous.Given as goal

abbrev pub invariant-loop-k : goal.invariant-loop-k
invariant-loop-k l =
    (l.at ≤ 65535 + 4718520 * l.k-index)
    × (contiguous_from l.self.segments.extra l.self.segments.dir.now l.blocks l.at (drop l.k-index l.self.segments.order.now) ≡ contiguous_from l.self.segments.extra l.self.segments.dir.now l.blocks l.self.segments.first l.self.segments.order.now)
