use Rattle.std.proofs.Common.{sym}
use Rattle.directory.specs.Walks.{Readable}
use Rattle.directory.proofs.Tests.{meets_all}
use Rattle.directory.proofs.rules.Lawful.pending_stands.Goals as goal

pub segment_at-requires : goal.segment_at-requires
segment_at-requires c =
    let s = c.args.self.segments in
    let h = meets_all (Readable s.extra s.dir.now) c.args.output.segment s.order.now (sym c.if-contains.ensures.value) c.args.self.readable in
    (h.0, h.1)
