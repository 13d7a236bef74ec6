use Rattle.std.proofs.Common.{ℕ}
use Rattle.device.specs.Held.{Held}
use Rattle.device.proofs.Lens.{whole_seen_all}
use Rattle.layers.specs.Windows.{length-window}
use Rattle.layers.proofs.WindowLaws.{window_there, window_parts, window_parts_stored}
use Rattle.layers.proofs.window.WindowDevice.write.Goals as goal

pub write_part-requires : goal.write_part-requires
write_part-requires g c = rw (c.size-count.ensures, length-window) (window_there _ _ _)

pub returns : goal.returns
returns g c =
    let s : ℕ = c.args.self.now.start in
    let n : ℕ = c.args.self.now.length in
    let h : Held = g.D.Device.held c.args.self.now.below in
    let w = whole_seen_all h.stack.pile h.stack.bottom h.whole in
    let e = rw (c.size-count.ensures, length-window) at c.write_part.ensures in
    record {
      answer = rw (window_parts s n h.stack w c.args.b) e.answer;
      stack = window_parts_stored s n h.stack w c.args.b _ _ c.told-from e.stack;
      fixed = e.fixed;
    }
