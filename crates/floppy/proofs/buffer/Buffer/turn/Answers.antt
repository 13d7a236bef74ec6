use Rattle.floppy.proofs.Saved.{turned}
use Rattle.floppy.proofs.buffer.Buffer.turn.Goals as goal

pub returns-then-not-holds : goal.returns-then-not-holds
returns-then-not-holds g c =
    let t = turned (g.D.Device.held c.args.below.now) (g.D.Device.held c.save.new.below) c.args.b c.args.self.now c.load.new.self
    c.requires.long c.requires.good c.save.ensures.stack c.load.ensures.buffer in
    record { long = t.0; block = t.1; stack = t.2; fixed = c.save.ensures.fixed }
