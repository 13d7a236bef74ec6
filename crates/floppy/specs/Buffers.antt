-- A block below, held in memory.
use Rattle.std.specs.Prelude.{◌≡◌, ℕ, ◌+◌, ◌*◌, ◌<◌, ◌≤◌, Bool, false, List, length, Some, None, Ok, Err, Option, Result, IfSome, ◌==◌, slice_index}
use Rattle.device.specs.declared.fault.DeviceFault.{DeviceFault}
use Rattle.device.specs.Blocks.{Block, is_bad}
use Rattle.device.specs.Stacks.{Stack, shown}
use Rattle.device.specs.Answers.{fetch, stored}
use Rattle.floppy.specs.declared.buffer.Buffer.{Buffer}

-- whether block b is the one held
abbrev pub is_held : Option ℕ → ℕ → Bool
is_held None b = false
is_held (Some c) b = c == b

-- what is held is what is below
abbrev pub Current : Buffer → List Block → Type 0
Current h bs = IfSome h.block (λ b. fetch bs b ≡ Ok h.bytes)

-- the buffer once block b was read
abbrev pub loaded : Result (List ℕ) DeviceFault → ℕ → Buffer → Buffer
loaded (Ok bytes) b old = record { block = Some b; bytes = bytes }
loaded (Err e) b old = old

-- what is below once the block held was written
abbrev pub saved_at : Option ℕ → List ℕ → Stack → Stack
saved_at None bytes s = s
saved_at (Some b) bytes s = stored (fetch (shown s) b) s b bytes

abbrev pub saved : Buffer → Stack → Stack
saved h s = saved_at h.block h.bytes s

-- block b is there, and good
pub record Readable (bs : List Block) (b : ℕ) : Type 0 where
  pub inside : b < length bs
  pub fine : is_bad bs b ≡ false

-- the bytes once sector i of `from` was copied to sector j of `to`
pub record Copied (from : List ℕ) (i : ℕ) (to : List ℕ) (j : ℕ) (after : List ℕ) : Type 0 where
  pub long : length after ≡ length to
  pub there : (o : ℕ) → o < 128 → slice_index after (128 * j + o) ≡ slice_index from (128 * i + o)
  pub before : (k : ℕ) → k < 128 * j → slice_index after k ≡ slice_index to k
  pub past : (k : ℕ) → 128 * j + 128 ≤ k → slice_index after k ≡ slice_index to k
