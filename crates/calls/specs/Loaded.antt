-- The directory of a sound level, as it is held in the workspace.
use Rattle.std.specs.Prelude.{◌≡◌, ℕ, ◌+◌, ◌*◌, true, List, Option}
use Rattle.device.specs.Blocks.{Block}
use Rattle.codec.specs.Words.{word_at}
use Rattle.volume.specs.Levels.{level_size, segments_fit}
use Rattle.volume.specs.Transfers.{AllGood}
use Rattle.directory.specs.declared.pending.Pending.{Pending}
use Rattle.directory.specs.Rules.{broken_rule}
use Rattle.level.specs.Loads.{directory}

pub record Loaded (bs : List Block) (o : Option Pending) (dir : List ℕ) : Type 0 where
  pub total : ℕ
  pub is : dir ≡ directory bs total
  pub fits : segments_fit total (level_size bs) ≡ true
  pub word : word_at dir 0 ≡ total
  pub sound : broken_rule dir (level_size bs) o ≡ 0
  pub good : AllGood bs 6 (6 + 2 * total)
