use Rattle.std.proofs.Common.{◌≡◌, ◌+◌, ◌*◌, ◌≤◌, length}
use Rattle.directory.specs.Finds.{blocks_in}
use Rattle.directory.specs.Entries.{entries_left}
use Rattle.directory.proofs.walk.Entries.sum_blocks.Given as goal

-- what is left answers for all
abbrev pub invariant-loop-entry : goal.invariant-loop-entry
invariant-loop-entry l = record {
  sum : l.sum + blocks_in (entries_left l.entry-iterator) ≡ blocks_in (entries_left l.self);
  bound : l.sum + 65535 * length (entries_left l.entry-iterator) ≤ 65535 * length (entries_left l.self);
}
