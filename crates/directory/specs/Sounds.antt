-- A sound directory: its entries in chain order, and its files by name.
use Rattle.std.specs.Prelude.{◌≡◌, ℕ, ◌+◌, ◌*◌, ◌≤◌, List, length, Option}
use Rattle.codec.specs.declared.name.Name.{Name}
use Rattle.codec.specs.Words.{word_at}
use Rattle.segment.specs.Directories.{chain_of}
use Rattle.directory.specs.declared.placed.Placed.{Placed}
use Rattle.directory.specs.declared.pending.Pending.{Pending}
use Rattle.directory.specs.Finds.{first_named}
use Rattle.directory.specs.Rules.{all_placed, broken_rule}

-- the bytes of a directory that breaks no rule, on a level of some number of blocks
pub record SoundBytes (dir : List ℕ) : Type 0 where
  pub blocks : ℕ
  pub output : Option Pending
  pub sound : broken_rule dir blocks output ≡ 0
  pub few : word_at dir 0 ≤ 31
  pub long : 1024 * word_at dir 0 ≤ length dir
  pub some : 1024 ≤ length dir

-- the entries of a directory, each in its place
unfoldable pub placed_of : List ℕ → List Placed
placed_of dir = all_placed (word_at dir 6) dir (chain_of dir) (6 + 2 * word_at dir 0)

-- the file of a name
unfoldable pub file_of : List ℕ → Name → Option Placed
file_of dir name = first_named name (placed_of dir)
