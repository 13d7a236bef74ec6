-- What an iterator over the entries of a directory has left.
use Rattle.std.specs.Prelude.{◌≡◌, ℕ, List, Option}
use Rattle.directory.specs.declared.placed.Placed.{Placed}
use Rattle.directory.specs.declared.walk.Entries.{Entries}
use Rattle.directory.specs.declared.walk.ChainEntries.{ChainEntries}
use Rattle.directory.specs.declared.placed.Spot.{Spot}
use Rattle.directory.specs.Walks.{left, chained, Steps, ChainSteps}

abbrev pub entries_left : Entries → List Placed
entries_left e = left e.extra e.dir.now e.order.now e.at

-- each with its segment's place in the chain
abbrev pub placed_left : Entries → List (ℕ × Placed)
placed_left e = chained e.extra e.dir.now e.order.now e.at

abbrev pub chain_left : ChainEntries → List (ℕ × Placed)
chain_left e = placed_left e.entries

-- the directory, the chain and the extra bytes that an iterator walks by, and the spot that it has come to
abbrev pub WalksBy : Entries → List ℕ → List ℕ → ℕ → Spot → Type 0
WalksBy e dir ks x s = (e.dir.now ≡ dir) × (e.order.now ≡ ks) × (e.extra ≡ x) × (e.at ≡ s)

-- one step from where an iterator has come to
abbrev pub StepsOn : Entries → Option (Placed × Spot) → Type 0
StepsOn e r = Steps e.extra e.dir.now e.order.now e.at r

abbrev pub ChainStepsOn : Entries → Option (Placed × Spot) → Type 0
ChainStepsOn e r = ChainSteps e.extra e.dir.now e.order.now e.at r
