use Rattle.std.proofs.Common.{ap, ◌∙◌, arith, length-set}
use Rattle.device.specs.declared.level.Level.{Level}
use Rattle.layers.specs.Mounts.{level, deepest_level, mount_table}
use Rattle.layers.proofs.Nests.{innermost_at, inside_more, seen_at, mounted_one}
use Rattle.layers.proofs.table.LevelTable.mount.Goals as goal

pub invariant_of-self : goal.invariant_of-self
invariant_of-self c =
    let i = c.self.invariant in
    let rs = c.self.inside.records in
    let first = ap (λ l. l.start) c.set_level.ensures in
    let long = ap (λ l. l.length) c.set_level.ensures in
    let size = ap (λ l. l.length) c.deepest-around.ensures.level in
    let same = ap (λ t. (deepest_level t).length) c.self.view_is in
    let last = ap (λ l. l.length) (innermost_at rs c.self.inside.depth (level 0 0) (omega arith)) in
    (rw length-set i.0, omega arith, inside_more rs c.self.inside.depth _ _ i.0 (omega arith) i.2 (omega arith))

pub returns-clause-after : goal.returns-clause-after
returns-clause-after c =
    let i = c.self.invariant in
    let rs = c.self.inside.records in
    let first = ap (λ l. l.start) c.set_level.ensures in
    let long = ap (λ l. l.length) c.set_level.ensures in
    let size = ap (λ l. l.length) c.deepest-around.ensures.level in
    let same = ap (λ t. (deepest_level t).length) c.self.view_is in
    let last = ap (λ l. l.length) (innermost_at rs c.self.inside.depth (level 0 0) (omega arith)) in
    mounted_one rs c.self.inside.depth c.set_level.new.level (level 0 0) i.0 (omega arith) (omega arith)
    ∙ ap (λ (l : Level). mount_table (seen_at rs c.self.inside.depth (level 0 0)) l.start l.length) c.set_level.ensures
    ∙ ap (λ t. mount_table t c.args.start c.args.length) c.self.view_is
