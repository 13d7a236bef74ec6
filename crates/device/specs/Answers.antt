-- What a device answers.
use Rattle.std.specs.Prelude.{ℕ, cond, List, length, Ok, Err, Result, nat_lt, slice_index_or, slice_set}
use Rattle.device.specs.Blocks.{Block, none, good}
use Rattle.device.specs.Stacks.{Stack, shown, put}
use Rattle.device.specs.declared.fault.DeviceFault.{DeviceFault}
use Rattle.device.specs.declared.fault.DeviceFault.TheVariants.{PastEnd, BadBlock}

-- the bytes of block b, or the refusal: 1 where there is no such block, else 2 where it is bad
abbrev pub fetch : List Block → ℕ → Result (List ℕ) DeviceFault
fetch bs b =
    cond (nat_lt b (length bs)) (cond (slice_index_or bs b none).bad (Err (BadBlock b)) (Ok (slice_index_or bs b none).bytes)) (Err (PastEnd b))

-- what a read and a write answer, by what `fetch` says
abbrev pub answered : Result (List ℕ) DeviceFault → Result (Unit {0}) DeviceFault
answered (Ok bytes) = Ok tt
answered (Err e) = Err e

-- what a read leaves in the buffer
abbrev pub filled : Result (List ℕ) DeviceFault → List ℕ → List ℕ
filled (Ok bytes) old = bytes
filled (Err e) old = old

-- what a write of `from` to block b leaves
abbrev pub stored : Result (List ℕ) DeviceFault → Stack → ℕ → List ℕ → Stack
stored (Ok bytes) s b from = put s (slice_set (shown s) b (good from))
stored (Err e) s b from = s
