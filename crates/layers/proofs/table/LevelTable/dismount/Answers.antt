use Rattle.std.proofs.Common.{ap, ◌∙◌}
use Rattle.layers.specs.Mounts.{level, dismount_table}
use Rattle.layers.proofs.Nests.{dismounted}
use Rattle.layers.proofs.table.LevelTable.dismount.Goals as goal

pub returns-clause-after : goal.returns-clause-after
returns-clause-after c =
    dismounted c.self.inside.records c.self.inside.depth (level 0 0) c.self.invariant.0 c.self.invariant.1 c.if-self-eq0.false
    ∙ ap dismount_table c.self.view_is
