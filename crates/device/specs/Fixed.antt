-- What no call of a device changes.
use Rattle.std.specs.Prelude.{ℕ, ◌*◌, List, [], ◌∷◌, drop}
use Rattle.device.specs.declared.level.Level.{Level}
use Rattle.device.specs.Images.{image_blocks}

-- A level table as a value: the record of the whole device, those of the mounted containers, each inside the one before, and the records
-- behind them, which no call shows.
pub record Table : Type 0 where
  pub whole : Level
  pub mounted : List Level
  pub spare : List Level

-- The references lent to a device, the list of bad blocks that it was given, the bytes behind its last block, and the level tables
-- of its layers, the outermost first.
pub record Fixed : Type 0 where
  pub names : List ℕ
  pub bads : List ℕ
  pub tail : List ℕ
  pub tables : List Table

abbrev pub nothing_fixed : Fixed
nothing_fixed = record { names = []; bads = []; tail = []; tables = [] }

abbrev pub fixed_image : ℕ → List ℕ → List ℕ → Fixed
fixed_image name memory bads =
    record { names = name ∷ []; bads = bads; tail = drop (512 * image_blocks memory) memory; tables = [] }

-- the same, lent once more
abbrev pub lent_by : ℕ → Fixed → Fixed
lent_by name f = record { names = name ∷ f.names; bads = f.bads; tail = f.tail; tables = f.tables }

-- with one more level table
abbrev pub tabled : Table → Fixed → Fixed
tabled t f = record { names = f.names; bads = f.bads; tail = f.tail; tables = t ∷ f.tables }
