use Rattle.std.proofs.Common.{◌≡◌}
use Rattle.directory.specs.Entries.{chain_left}
use Rattle.places.specs.Chosen.{none_yet, Low, best_after}
use Rattle.places.proofs.choose.best_of.Given as goal

-- what is left answers for all
abbrev pub invariant-loop-place : goal.invariant-loop-place
invariant-loop-place l =
    (goal.iterator-loop-place).can_next l.place-iterator
    × (goal.iterator-loop-place).is_finite l.place-iterator
    × (best_after l.least l.best (chain_left l.place-iterator) ≡ best_after l.least none_yet (chain_left l.fn.entries))
    × Low l.best
