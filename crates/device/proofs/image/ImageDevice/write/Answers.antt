use Rattle.std.proofs.Common.{ℕ, List}
use Rattle.device.specs.Images.{image_blocks, listed}
use Rattle.device.proofs.Fetches.{laid-good, image_write, image_fixed}
use Rattle.device.proofs.image.ImageDevice.write.Goals as goal

pub returns-clause-stack : goal.returns-clause-stack
returns-clause-stack c =
    let m : List ℕ = c.args.self.now.memory.now in
    let h = c.in_ok-check.ensures in
    rw (laid-good (image_blocks m) (listed c.args.self.now.bad.now) m c.args.b h.inside h.good)
    (image_write m c.args.self.now.bad.now c.args.from.now c.store.new.memory c.args.b h.inside h.good c.told-from c.store.ensures)

pub returns-clause-fixed : goal.returns-clause-fixed
returns-clause-fixed c = image_fixed _ _ _ c.args.from.now _ c.args.b c.in_ok-check.ensures.inside c.store.ensures
