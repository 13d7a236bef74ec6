-- What a floppy holds.
use Rattle.std.specs.Prelude.{◌≡◌, ℕ, ◌≤◌, Bool, true, false, cond, List, length, nat_le}
use Rattle.std.proofs.Common.{arith}
use Rattle.device.specs.Blocks.{Block}
use Rattle.device.specs.Tables.{length-made}
use Rattle.device.specs.Stacks.{seen, shown, over}
use Rattle.device.specs.Held.{Held, shows}
use Rattle.floppy.specs.Floppies.{floppy, floppy_count}

pub length-floppy : (bs : List Block) → length (seen floppy bs) ≡ floppy_count (length bs)
unfolding floppy seen
length-floppy bs = length-made _ _ _

pub floppy_few : (n : ℕ) → floppy_count n ≤ 494
floppy_few n = go (nat_le 501 n)
  where
    go : (t : Bool) → cond t 494 0 ≤ 494
    go true = omega arith
    go false = omega arith

pub floppy_limit : (h : Held) → length (shown (over floppy h.stack)) ≤ 8388608
floppy_limit h = omega (arith, length-floppy (shows h), floppy_few (length (shows h)))

-- a floppy over what is held
abbrev pub held_floppy : Held → Held
held_floppy h = record { stack = over floppy h.stack; whole = h.whole; limit = floppy_limit h }
