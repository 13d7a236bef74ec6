use Rattle.std.proofs.Common.{◌≡◌, ◌∷◌, ◌++◌, take, drop}
use Rattle.std.specs.List.{insert}
use Rattle.slots.proofs.splice.insert.Given as goal

abbrev pub invariant-loop-k : goal.invariant-loop-k
invariant-loop-k l =
    take l.k l.entries ++ l.carried ∷ drop l.k l.entries ≡ insert l.initial.entries l.i l.initial.carried
