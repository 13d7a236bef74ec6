use Rattle.files.specs.States.{initialized}
use Rattle.files.proofs.Lowered.{same_table, same_below, lowered}
use Rattle.files.proofs.pack.Pack.initialize.Goals as goal

pub returns : goal.returns
unfolding initialized
returns g c =
    let old = c.args.self.now.levels in
    let new = c.initialize.new.d in
    let same = same_table new.table old.table (g.D.Device.fixed new.below) (g.D.Device.fixed old.below) c.initialize.ensures.fixed in
    record {
      answer = c.initialize.ensures.answer;
      state = lowered old.table new.table (g.D.Device.held old.below).stack (g.D.Device.held new.below).stack _ same c.initialize.ensures.after.is;
      fixed = same_below new.table old.table (g.D.Device.fixed new.below) (g.D.Device.fixed old.below) c.initialize.ensures.fixed;
    }
