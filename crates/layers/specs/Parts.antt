-- A stretch of the blocks below, as the blocks of a layer.
use Rattle.std.specs.Prelude.{ℕ, ◌+◌, ◌<◌, ◌≤◌, cond, List, Ok, Err, Result, nat_lt}
use Rattle.device.specs.declared.fault.DeviceFault.{DeviceFault}
use Rattle.device.specs.declared.fault.DeviceFault.TheVariants.{PastEnd, BadBlock}
use Rattle.device.specs.Blocks.{Block}
use Rattle.device.specs.Stacks.{Stack, shown}
use Rattle.device.specs.Answers.{fetch, stored}

-- of m blocks below, the blocks of the stretch are there
abbrev pub PartIsThere : ℕ → ℕ → ℕ → Type 0
PartIsThere first count m = 0 < count → first + count ≤ m

-- any refusal from below tells that the block that the layer was asked for is bad
abbrev pub elsewhere : ℕ → Result (List ℕ) DeviceFault → Result (List ℕ) DeviceFault
elsewhere b (Ok x) = Ok x
elsewhere b (Err e) = Err (BadBlock b)

-- block b of `count` blocks from block `first` on
abbrev pub part_fetch : ℕ → ℕ → List Block → ℕ → Result (List ℕ) DeviceFault
part_fetch first count bs b = cond (nat_lt b count) (elsewhere b (fetch bs (first + b))) (Err (PastEnd b))

-- what a write of `from` to it leaves below
abbrev pub part_stored : ℕ → ℕ → Stack → ℕ → List ℕ → Stack
part_stored first count s b from = cond (nat_lt b count) (stored (fetch (shown s) (first + b)) s (first + b) from) s
