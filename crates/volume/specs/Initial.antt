-- INITIALIZE: a new volume.
use Rattle.std.specs.Prelude.{ℕ, ◌+◌, ◌-◌, ◌*◌, cond, List, [], ◌∷◌, ◌++◌, replicate, Ok, Err, Result, slice_index_or, slice_set}
use Rattle.device.specs.Blocks.{Block, none, good}
use Rattle.device.specs.Answers.{fetch}
use Rattle.volume.specs.declared.fault.FileFault.{FileFault}
use Rattle.volume.specs.declared.fault.FileFault.TheVariants.{OutOfRange}
use Rattle.volume.specs.Faults.{after}
use Rattle.volume.specs.Entries.{empty_of}
use Rattle.volume.specs.Segments.{segment_bytes}
use Rattle.volume.specs.Home.{home}
use Rattle.volume.specs.Levels.{level_size, segments_fit}
use Rattle.volume.specs.Transfers.{readable, overwritten, halves}

-- segment 1 of s on a level of v blocks: one empty, behind the directory
unfoldable pub first_segment : ℕ → ℕ → List ℕ
first_segment s v =
    segment_bytes (record { total = s; next = 0; highest = 1; extra = 0; start = 6 + 2 * s }) (empty_of (v - 6 - 2 * s) ∷ [])

-- the blocks of the directory: segment 1, and zeros
unfoldable pub new_directory : ℕ → ℕ → List (List ℕ)
new_directory s v = halves (first_segment s v) ++ replicate (2 * s - 2) (replicate 512 0)

-- the blocks once the home block and the directory are written
unfoldable pub laid_out : List Block → ℕ → ℕ → List ℕ → List Block
laid_out bs s v old = overwritten (slice_set bs 1 (good (home old))) 6 (new_directory s v)

-- what INITIALIZE with s segments answers: the range, then the first block that is refused
unfoldable pub init_answer : ℕ → List Block → Result (Unit {0}) FileFault
init_answer s bs =
    cond (segments_fit s (level_size bs)) (after (fetch bs 1) (after (readable bs 6 (2 * s)) (Ok tt))) (Err OutOfRange)

-- and the blocks that it leaves
abbrev pub init_by : Result (Unit {0}) FileFault → ℕ → List Block → List Block
init_by (Ok u) s bs = laid_out bs s (level_size bs) (slice_index_or bs 1 none).bytes
init_by (Err e) s bs = bs

unfoldable pub init_blocks : ℕ → List Block → List Block
init_blocks s bs = init_by (init_answer s bs) s bs
