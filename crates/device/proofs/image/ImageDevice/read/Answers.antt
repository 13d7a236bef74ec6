use Rattle.std.proofs.Common.{ℕ, List}
use Rattle.device.specs.Images.{image_blocks, listed}
use Rattle.device.proofs.Fetches.{laid-good, laid_read}
use Rattle.device.proofs.image.ImageDevice.read.Goals as goal

pub returns-clause-buffer : goal.returns-clause-buffer
returns-clause-buffer c =
    let m : List ℕ = c.args.self.now.memory.now in
    rw (laid-good (image_blocks m) (listed c.args.self.now.bad.now) m c.args.b c.in_ok-check.ensures.inside c.in_ok-check.ensures.good)
    (laid_read 0 (listed c.args.self.now.bad.now) m c.args.b c.load.new.into c.load.array_long c.load.ensures)
