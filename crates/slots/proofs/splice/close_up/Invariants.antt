use Rattle.std.proofs.Common.{◌≡◌, ◌+◌, ◌++◌, take, drop}
use Rattle.slots.proofs.splice.close_up.Given as goal

abbrev pub invariant-loop-k : goal.invariant-loop-k
invariant-loop-k l =
    (l.j + l.to ≡ l.k + l.from) × (take l.j l.entries ++ drop l.k l.entries ≡ take l.from l.initial.entries ++ drop l.to l.initial.entries)
