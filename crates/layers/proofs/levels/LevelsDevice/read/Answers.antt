use Rattle.device.specs.Held.{Held}
use Rattle.device.proofs.Lens.{whole_seen_all}
use Rattle.layers.proofs.LevelLaws.{levels_length, levels_there, levels_parts}
use Rattle.layers.proofs.levels.LevelsDevice.read.Goals as goal

pub read_part-requires : goal.read_part-requires
read_part-requires g c =
    let t = c.args.self.now.table in
    let i = c.origin.ensures.nested in
    let h : Held = g.D.Device.held c.args.self.now.below in
    let w = whole_seen_all h.stack.pile h.stack.bottom h.whole in
    rw (c.origin.ensures.first, c.size.ensures, levels_length t i h.stack w) (levels_there t i h.stack w)

pub returns : goal.returns
returns g c =
    let t = c.args.self.now.table in
    let i = c.origin.ensures.nested in
    let h : Held = g.D.Device.held c.args.self.now.below in
    let w = whole_seen_all h.stack.pile h.stack.bottom h.whole in
    rw (levels_parts t i h.stack w c.args.b)
    (rw (c.origin.ensures.first, c.size.ensures, levels_length t i h.stack w) at c.read_part.ensures)
