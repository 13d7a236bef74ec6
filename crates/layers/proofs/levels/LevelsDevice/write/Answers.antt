use Rattle.std.proofs.Common.{ap}
use Rattle.device.specs.Held.{Held}
use Rattle.device.specs.Fixed.{tabled}
use Rattle.device.proofs.Lens.{whole_seen_all}
use Rattle.layers.proofs.LevelLaws.{levels_length, levels_there, levels_parts, levels_parts_stored}
use Rattle.layers.proofs.levels.LevelsDevice.write.Goals as goal

pub write_part-requires : goal.write_part-requires
write_part-requires g c =
    let t = c.args.self.now.table in
    let i = c.origin.ensures.nested in
    let h : Held = g.D.Device.held c.args.self.now.below in
    let w = whole_seen_all h.stack.pile h.stack.bottom h.whole in
    rw (c.origin.ensures.first, c.size-count.ensures, levels_length t i h.stack w) (levels_there t i h.stack w)

pub returns : goal.returns
returns g c =
    let t = c.args.self.now.table in
    let i = c.origin.ensures.nested in
    let h : Held = g.D.Device.held c.args.self.now.below in
    let w = whole_seen_all h.stack.pile h.stack.bottom h.whole in
    let e = rw (c.origin.ensures.first, c.size-count.ensures, levels_length t i h.stack w) at c.write_part.ensures in
    record {
      answer = rw (levels_parts t i h.stack w c.args.b) e.answer;
      stack = levels_parts_stored t i h.stack w c.args.b _ _ c.told-from e.stack;
      fixed = ap (tabled t) e.fixed;
    }
