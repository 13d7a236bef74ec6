use Rattle.std.proofs.Common.{sym, ◌∙◌}
use Rattle.directory.proofs.Finding as find
use Rattle.directory.proofs.Starts.{low_start}
use Rattle.directory.proofs.walk.Entries.find_named.Goals as goal

pub returns-then-is_named : goal.returns-then-is_named
returns-then-is_named c =
    record {
      file = sym (find.named c.args.name _ c.in-Some.ensures.steps (sym c.if-is_named.ensures)) ∙ c.loop-entry.invariant;
      start = low_start c.loop-entry.entry-iterator _ _ c.in-Some.ensures.steps;
    }
