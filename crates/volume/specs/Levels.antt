-- The level that a device shows.
use Rattle.std.specs.Prelude.{ℕ, ◌+◌, ◌*◌, min, Bool, ◌&&◌, List, length, nat_le}
use Rattle.device.specs.Blocks.{Block}

-- the blocks of a level
abbrev pub level_size : List Block → ℕ
level_size bs = min (length bs) 65535

-- whether a directory of s segments fits a level of v blocks
abbrev pub segments_fit : ℕ → ℕ → Bool
segments_fit s v = nat_le 1 s && (nat_le s 31 && nat_le (7 + 2 * s) v)
