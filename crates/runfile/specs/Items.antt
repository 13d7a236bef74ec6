-- What a run holds.
use Rattle.std.specs.Prelude.{ℕ, zero, suc, List, [], ◌∷◌, length, Ok, Err, Result}
use Rattle.runfile.specs.declared.field.CutShort.{CutShort}
use Rattle.runfile.specs.declared.field.Part.{Part}
use Rattle.runfile.specs.Pieces.{Piece, ended, short, whole, next_piece}

-- what a run holds: fields, each with its tag and its body, and at the end perhaps one that is cut short
pub data Item : Type 0 where
  field : ℕ → List ℕ → Item
  rump : Item

abbrev pub joined : (List ℕ → List Item) → Piece → List Item
joined more ended = []
joined more short = rump ∷ []
joined more (whole tag body rest) = field tag body ∷ more rest

-- the items of a run, of which there are at most so many
abbrev pub up_to : ℕ → List ℕ → List Item
up_to zero run = []
up_to (suc k) run = joined (up_to k) (next_piece run)

-- each item is a byte long and more
abbrev pub items : List ℕ → List Item
items run = up_to (length run) run

abbrev pub item_of : Result Part CutShort → Item
item_of (Ok p) = field p.tag p.body.now
item_of (Err e) = rump
