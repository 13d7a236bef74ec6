use Rattle.std.proofs.Common.{◌≡◌, ap, ◌∙◌, rules}
use Rattle.edits.specs.Edits.{emptied}
use Rattle.slots.specs.Slots.{slot_entries}
use Rattle.changes.proofs.Written.{changed_by}
use Rattle.changes.proofs.rewrite.empty_at.Goals as goal

pub returns : goal.returns
returns c =
    let made = c.rewrite.ensures in
    let edited : slot_entries made.1 ≡ emptied c.args.i (slot_entries made.0) = search rules in
    changed_by c.args.dir.now c.args.k (emptied c.args.i) (slot_entries made.1) c.rewrite.new.dir (edited ∙ ap (emptied c.args.i) made.2) made.4
