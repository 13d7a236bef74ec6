use Rattle.std.proofs.Common.{◌≡◌, ◌≤◌, length, take}
use Rattle.edits.specs.Values.{value_at}
use Rattle.slots.proofs.bytes.entries_at.Given as goal

abbrev pub invariant-loop-i : goal.invariant-loop-i
invariant-loop-i l =
    (length l.entries ≡ 72)
    × (l.i ≤ length (value_at l.extra l.dir l.k))
    × (take l.i l.entries ≡ take l.i (value_at l.extra l.dir l.k))
