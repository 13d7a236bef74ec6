use Rattle.std.proofs.Common.{sym, ap, ◌∙◌}
use Rattle.device.specs.Faults.{blocks_by}
use Rattle.device.specs.Held.{shows}
use Rattle.device.proofs.Standings.{blocks_fit}
use Rattle.layers.specs.Windows.{length-window}
use Rattle.layers.proofs.window.WindowDevice.size.Goals as goal

pub returns : goal.returns
returns g c =
    let w = c.args.self.now in
    c.blocks-2.ensures ∙ ap (λ s. blocks_by s w.length) c.standing.ensures ∙ blocks_fit _ w.length ∙ sym (length-window w.start w.length (shows (g.D.Device.held w.below)))
