-- LOOKUP and READ. The order of their checks: the workspace, the name, the level, the file, the block, the data.
use Rattle.std.specs.Prelude.{ℕ, ◌+◌, cond, List, Some, None, Ok, Err, Option, Result, nat_lt}
use Rattle.codec.specs.declared.name.Name.{Name}
use Rattle.codec.specs.declared.name.UnlawfulName.{UnlawfulName}
use Rattle.codec.specs.Names.{name_of}
use Rattle.device.specs.declared.fault.DeviceFault.{DeviceFault}
use Rattle.device.specs.Blocks.{Block}
use Rattle.device.specs.Answers.{fetch}
use Rattle.volume.specs.declared.fault.FileFault.{FileFault}
use Rattle.volume.specs.declared.fault.FileFault.TheVariants as fault
use Rattle.directory.specs.declared.pending.Pending.{Pending}
use Rattle.directory.specs.declared.placed.Placed.{Placed}
use Rattle.directory.specs.Sounds.{file_of}
use Rattle.level.specs.Loads.{directory}
use Rattle.level.specs.Checks.{check_answer}

-- start, length and date word of the file that was found
abbrev pub found_file : Option Placed → Result (ℕ × ℕ × ℕ) FileFault
found_file None = Err fault.NoSuchFile
found_file (Some p) = Ok (p.start, p.length, p.date)

abbrev pub looked_up : List Block → Name → Result ℕ FileFault → Result (ℕ × ℕ × ℕ) FileFault
looked_up bs name (Ok s) = found_file (file_of (directory bs s) name)
looked_up bs name (Err e) = Err e

abbrev pub lookup_named : ℕ → List Block → Option Pending → Result Name UnlawfulName → Result (ℕ × ℕ × ℕ) FileFault
lookup_named n bs o (Ok name) = looked_up bs name (check_answer n bs o)
lookup_named n bs o (Err e) = Err fault.UnlawfulName

-- LOOKUP with a workspace of n bytes, by the nine characters of the name
unfoldable pub lookup_answer : ℕ → List Block → Option Pending → List ℕ → Result (ℕ × ℕ × ℕ) FileFault
lookup_answer n bs o cs = cond (nat_lt n 32768) (Err fault.WorkspaceTooSmall) (lookup_named n bs o (name_of cs))

abbrev pub turned : Result (List ℕ) DeviceFault → Result (List ℕ) FileFault
turned (Ok x) = Ok x
turned (Err e) = Err (fault.OfDevice e)

-- block b of a file that was looked up
abbrev pub block_of : List Block → ℕ → Result (ℕ × ℕ × ℕ) FileFault → Result (List ℕ) FileFault
block_of bs b (Ok f) = cond (nat_lt b f.1) (turned (fetch bs (f.0 + b))) (Err fault.OutOfRange)
block_of bs b (Err e) = Err e

-- READ: the bytes of block b of a file, or the refusal
unfoldable pub read_fetched : ℕ → List Block → Option Pending → List ℕ → ℕ → Result (List ℕ) FileFault
read_fetched n bs o cs b = block_of bs b (lookup_answer n bs o cs)

abbrev pub read_answer : Result (List ℕ) FileFault → Result (Unit {0}) FileFault
read_answer (Ok x) = Ok tt
read_answer (Err e) = Err e

abbrev pub read_buffer : Result (List ℕ) FileFault → List ℕ → List ℕ
read_buffer (Ok x) old = x
read_buffer (Err e) old = old
