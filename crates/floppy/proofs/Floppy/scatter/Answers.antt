use Rattle.std.proofs.Common.{refl, ◌∙◌, arith}
use Rattle.device.specs.Held.{Held}
use Rattle.floppy.proofs.Scattered.{scattered_none, scattered_turned, scattered_readable, scattered_more, scattered_all}
use Rattle.floppy.proofs.Floppy.scatter.Goals as goal

pub loop-n-init : goal.loop-n-init
loop-n-init g c = (
  scattered_none (g.D.Device.held c.args.self.now.below) c.args.b c.args.from.now c.requires.good c.empty-held.result
      c.empty-held.ensures.block c.empty-held.ensures.long,
  refl,
)

pub turn-requires : goal.turn-requires
turn-requires g c =
    record {
      long = c.loop-n.invariant.0.long;
      good = scattered_readable (g.D.Device.held c.args.self.now.below) c.args.b c.args.from.now c.requires.good c.loop-n.n
          c.loop-n.held (g.D.Device.held c.loop-n.self.below) c.loop-n.invariant.0 c.sector_at-place.result (omega arith)
          c.sector_at-place.ensures.place;
    }

pub loop-n-preserved : goal.loop-n-preserved
loop-n-preserved g c =
    let s : Held = g.D.Device.held c.args.self.now.below in
    let k : Held = g.D.Device.held c.turn.new.below in (
      scattered_more s c.args.b c.args.from.now c.requires.good c.loop-n.n c.turn.new.self k
          (scattered_turned s c.args.b c.args.from.now c.requires.good c.loop-n.n c.loop-n.held (g.D.Device.held c.loop-n.self.below)
          c.loop-n.invariant.0 c.turn.new.self k c.turn.ensures.long c.turn.ensures.stack)
          c.sector_at-place.result c.copy_sector.new.to c.told-from (omega arith) c.sector_at-place.ensures.place c.turn.ensures.block
          c.copy_sector.ensures,
      c.turn.ensures.fixed ∙ c.loop-n.invariant.1,
    )

pub returns : goal.returns
returns g c =
    record {
      stack = scattered_all (g.D.Device.held c.args.self.now.below) c.args.b c.args.from.now c.requires.good c.loop-n.n
          c.loop-n.held (g.D.Device.held c.loop-n.self.below) c.loop-n.invariant.0 (g.D.Device.held c.save.new.below).stack
          c.told-from (omega arith) c.save.ensures.stack;
      fixed = c.save.ensures.fixed ∙ c.loop-n.invariant.1;
    }
