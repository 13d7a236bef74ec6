use Rattle.listing.proofs.Placing.{none_told, none_written, some_told, some_written}
use Rattle.listing.proofs.write.write_listing.Goals as goal

pub returns-then-out-lines : goal.returns-then-out-lines
returns-then-out-lines c =
    let t = c.totals_of-totals.ensures in
    let n = c.put_totals-length.ensures.long in
    record {
      answer = none_told _ c.totals_of-totals.result _ t.files t.used t.free t.lines n c.args.out.now c.if-out-lines.true;
      after = none_written _ c.totals_of-totals.result _ t.files t.used t.free t.lines n c.args.out.now c.if-out-lines.true;
    }

pub returns : goal.returns
returns c =
    let t = c.totals_of-totals.ensures in
    let n = c.put_totals-length.ensures.long in
    record {
      answer = some_told _ c.totals_of-totals.result _ t.files t.used t.free t.lines n c.args.out.now c.if-out-lines.false;
      after =
          some_written _ c.totals_of-totals.result _ t.files t.used t.free t.lines n c.args.out.now _ c.if-out-lines.false c.put_lines.ensures
          c.put_totals-length.ensures.after c.put.ensures;
    }
