use Rattle.std.specs.Prelude.{◌==◌}
use Rattle.std.proofs.Common.{length, sym, ap, ◌∙◌}
use Rattle.device.specs.declared.level.Level.{Level}
use Rattle.device.specs.Faults.{blocks_by}
use Rattle.device.specs.Held.{Held, shows}
use Rattle.device.proofs.Lens.{whole_seen_all}
use Rattle.device.proofs.Standings.{blocks_fit}
use Rattle.layers.specs.LevelStacks.{levels_standing}
use Rattle.layers.specs.Mounts.{deepest_level}
use Rattle.layers.proofs.LevelLaws.{levels_length}
use Rattle.layers.proofs.levels.LevelsDevice.size.Goals as goal

pub returns : goal.returns
returns g c =
    let t = c.args.self.now.table in
    let h : Held = g.D.Device.held c.args.self.now.below in
    c.blocks-2.ensures ∙ ap (λ s. blocks_by s c.deepest.result.length) c.standing.ensures
    ∙ ap (λ (l : Level). blocks_by (levels_standing t (length (shows h))) l.length) c.deepest.ensures.level
    ∙ blocks_fit (length (shows h) == t.whole.length) (deepest_level t).length ∙ sym (levels_length t c.deepest.ensures.nested h.stack (whole_seen_all _ _ h.whole))
