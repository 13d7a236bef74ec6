use Rattle.std.proofs.Common.{◌+◌, add-mul, arith}
use Rattle.segment.proofs.Walks.{room_for}
use Rattle.directory.proofs.rules.entries_stand.Goals as goal

pub same_bytes-requires : goal.same_bytes-requires
same_bytes-requires c = (
  omega (
    arith,
    c.in-Some.ensures.most,
    c.entry_start.ensures.start,
    room_for c.args.extra (c.args.index + 2) (omega (arith, c.in-Some.ensures.most)),
    add-mul c.args.index 2 (14 + c.args.extra),
  ),
  omega arith,
)
