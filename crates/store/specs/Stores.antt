-- Segments of a directory written to the blocks of a level.
use Rattle.std.specs.Prelude.{◌≡◌, ℕ, ◌+◌, ◌*◌, ◌≤◌, List, [], ◌∷◌, length}
use Rattle.std.specs.List.{AllByRecursion}
use Rattle.device.specs.Blocks.{Block}
use Rattle.volume.specs.Transfers.{overwritten, halves}
use Rattle.segment.specs.Directories.{Directory}
use Rattle.edits.specs.Laid.{Laid}
use Rattle.carry.specs.Carries.{image, imaged}
use Rattle.carry.specs.Writes.{Fits}
use Rattle.level.specs.Loads.{directory}

-- the blocks once some segments are written, each to its two blocks
unfoldable pub rewritten : List Block → Directory → List Laid → List Block
rewritten bs d [] = bs
rewritten bs d (m ∷ ms) = rewritten (overwritten bs (4 + 2 * m.number) (halves (image d m))) d ms

-- the bytes of the directory are then those into which they are written
abbrev pub RewrittenReads : Type 0
RewrittenReads =
    (bs : List Block) (d : Directory) (ms : List Laid) (s : ℕ)
    → 6 + 2 * s ≤ length bs → AllByRecursion (Fits (1024 * s) d.extra) ms
    → directory (rewritten bs d ms) s ≡ imaged (directory bs s) d ms
