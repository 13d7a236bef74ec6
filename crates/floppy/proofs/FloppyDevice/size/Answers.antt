use Rattle.std.proofs.Common.{sym, ap, ◌∙◌}
use Rattle.device.specs.Faults.{blocks_by}
use Rattle.device.specs.Held.{shows}
use Rattle.device.proofs.Standings.{blocks_fit}
use Rattle.floppy.specs.Held.{length-floppy}
use Rattle.floppy.proofs.FloppyDevice.size.Goals as goal

pub returns : goal.returns
returns g c =
    c.blocks-2.ensures ∙ ap (λ s. blocks_by s 494) c.standing.ensures ∙ blocks_fit _ 494 ∙ sym (length-floppy (shows (g.D.Device.held c.args.self.now.below)))
