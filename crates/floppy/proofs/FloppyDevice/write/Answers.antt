use Rattle.std.proofs.Common.{List}
use Rattle.device.specs.Blocks.{Block}
use Rattle.device.specs.Stacks.{seen}
use Rattle.device.specs.Held.{shows}
use Rattle.floppy.specs.Floppies.{floppy}
use Rattle.floppy.specs.Buffers.{Readable}
use Rattle.floppy.proofs.Readables.{fetched_readable}
use Rattle.floppy.proofs.Places.{low_block}
use Rattle.floppy.proofs.FloppyDevice.write.Goals as goal

pub scatter-requires : goal.scatter-requires
scatter-requires g c =
    let bs : List Block = shows (g.D.Device.held c.args.self.now.below) in
    let r : Readable (seen floppy bs) c.args.b
    = fetched_readable (seen floppy bs) c.args.b c.in_ok-gather.field-0 c.in_ok-gather.ensures in
    record { low = (low_block bs c.args.b r).1; good = r }
