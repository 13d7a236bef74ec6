use Rattle.device.specs.Held.{Held}
use Rattle.device.proofs.Lens.{whole_seen_all}
use Rattle.layers.specs.Windows.{length-window}
use Rattle.layers.proofs.WindowLaws.{window_there, window_parts}
use Rattle.layers.proofs.window.WindowDevice.read.Goals as goal

pub read_part-requires : goal.read_part-requires
read_part-requires g c = rw (c.size.ensures, length-window) (window_there _ _ _)

pub returns : goal.returns
returns g c =
    let h : Held = g.D.Device.held c.args.self.now.below in
    let e = window_parts c.args.self.now.start c.args.self.now.length h.stack (whole_seen_all _ _ h.whole) c.args.b in
    rw e (rw (c.size.ensures, length-window) at c.read_part.ensures)
