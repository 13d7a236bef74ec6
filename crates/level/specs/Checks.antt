-- Whether a level is sound, in the order in which it is told.
use Rattle.std.specs.Prelude.{ℕ, cond, List, Ok, Err, Option, Result, ◌==◌}
use Rattle.device.specs.Blocks.{Block}
use Rattle.volume.specs.declared.fault.FileFault.{FileFault}
use Rattle.volume.specs.declared.fault.FileFault.TheVariants.{NotSound}
use Rattle.volume.specs.Levels.{level_size}
use Rattle.volume.specs.Rules.{rule_of}
use Rattle.directory.specs.declared.pending.Pending.{Pending}
use Rattle.directory.specs.Rules.{broken_rule}
use Rattle.level.specs.Loads.{directory, load_answer}

-- by the first broken rule of 3 to 9
abbrev pub judged : ℕ → ℕ → Result ℕ FileFault
judged s rule = cond (rule == 0) (Ok s) (Err (NotSound (rule_of rule)))

abbrev pub checked : List Block → Option Pending → Result ℕ FileFault → Result ℕ FileFault
checked bs o (Ok s) = judged s (broken_rule (directory bs s) (level_size bs) o)
checked bs o (Err e) = Err e

-- with a workspace of n bytes: rules 1 and 2 and the directory blocks, then rules 3 to 9
unfoldable pub check_answer : ℕ → List Block → Option Pending → Result ℕ FileFault
check_answer n bs o = checked bs o (load_answer n bs)
