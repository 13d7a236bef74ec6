use Rattle.std.proofs.Common.{◌≡◌, [], ◌∷◌, get_or, ap, ◌∙◌, rules}
use Rattle.std.proofs.lemmas.List.{get_or_read}
use Rattle.volume.specs.declared.entry.Entry.{Entry}
use Rattle.volume.proofs.Encoding.{no_entry}
use Rattle.edits.specs.Entries.{renamed}
use Rattle.edits.specs.Edits.{spliced}
use Rattle.slots.specs.Slots.{slot_entries}
use Rattle.changes.specs.Segments.{entry_in}
use Rattle.changes.proofs.Written.{changed_by, entry_same}
use Rattle.changes.proofs.rewrite.rename_at.Goals as goal

pub returns : goal.returns
returns c =
    let made = c.rewrite.ensures in
    let edited : slot_entries made.1 ≡ spliced c.args.i 1 (renamed c.args.name (get_or made.0.entries c.args.i no_entry) ∷ []) (slot_entries made.0) = search (rules, get_or_read) in
    let same = entry_same c.args.dir.now c.args.k made.0 made.2 c.args.i c.requires.inside in
    changed_by c.args.dir.now c.args.k (spliced c.args.i 1 (renamed c.args.name (entry_in c.args.dir.now c.args.k c.args.i) ∷ [])) (slot_entries made.1) c.rewrite.new.dir
    (edited
    ∙ ap (λ (e : Entry). spliced c.args.i 1 (renamed c.args.name e ∷ []) (slot_entries made.0)) same
    ∙ ap (spliced c.args.i 1 (renamed c.args.name (entry_in c.args.dir.now c.args.k c.args.i) ∷ [])) made.2) made.4
