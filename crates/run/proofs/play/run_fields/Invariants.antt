use Rattle.std.proofs.Common.{◌≡◌, ◌*◌, ◌≤◌, length}
use Rattle.files.specs.States.{state_of}
use Rattle.runfile.specs.Items.{items}
use Rattle.run.specs.Play.{play}
use Rattle.run.proofs.play.run_fields.Given as goal

-- what is left of the run ends as the whole does
abbrev pub invariant-loop-field : goal.invariant-loop-field
invariant-loop-field g l =
    (goal.iterator-loop-field g).can_next l.field-iterator
    × (goal.iterator-loop-field g).is_finite l.field-iterator
    × (20 * l.lines ≤ length l.report)
    × (play (state_of g.D.Device.held l.pack) l.lines l.report (items l.field-iterator.rest.now)
    ≡ play (state_of g.D.Device.held l.initial.pack) 0 l.initial.report (items l.run))
    × (g.D.Device.fixed l.pack.levels.below ≡ g.D.Device.fixed l.initial.pack.levels.below)
