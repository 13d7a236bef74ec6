use Rattle.std.proofs.Common.{arith}
use Rattle.listing.proofs.Placing.{total-written, total-long}
use Rattle.listing.proofs.write.put_totals.Goals as goal

pub returns : goal.returns
returns c =
    let a = c.put_counted-used.ensures in
    let b = c.put_counted-free.ensures in
    let d = c.put_counted-end.ensures in
    record {
      after = total-written _ _ _ _ _ _ a.behind b.behind d.behind _ a.after b.after d.after c.put.ensures;
      long = total-long c.args.totals.files c.args.totals.used c.args.totals.free _ _ _ a.behind b.behind d.behind;
      room = omega (arith, a.room, b.room, d.room);
    }
