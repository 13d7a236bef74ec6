-- The number and the value of each fault and each standing.
use Rattle.std.specs.Prelude.{ℕ, Bool, cond}
use Rattle.device.specs.declared.fault.DeviceFault.{DeviceFault}
use Rattle.device.specs.declared.fault.DeviceFault.TheVariants.{PastEnd, BadBlock}
use Rattle.device.specs.declared.standing.Standing.{Standing}
use Rattle.device.specs.declared.standing.Standing.TheVariants.{Stands, DoesNotFit}

-- 1 for a block past the device, 2 for a bad block
abbrev pub fault_number : DeviceFault → ℕ
fault_number (PastEnd b) = 1
fault_number (BadBlock b) = 2

-- the block that was asked for
abbrev pub fault_block : DeviceFault → ℕ
fault_block (PastEnd b) = b
fault_block (BadBlock b) = b

-- 0 where a layer stands, 3 where it does not fit what is below
abbrev pub standing_number : Standing → ℕ
standing_number Stands = 0
standing_number DoesNotFit = 3

-- the standing of a layer that fits, or does not
abbrev pub standing_of : Bool → Standing
standing_of fits = cond fits Stands DoesNotFit

-- a layer that does not fit shows no block
abbrev pub blocks_by : Standing → ℕ → ℕ
blocks_by Stands n = n
blocks_by DoesNotFit n = 0
