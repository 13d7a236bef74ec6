-- The number and the detail of each refusal.
use Rattle.std.specs.Prelude.{ℕ, Ok, Err, Result}
use Rattle.device.specs.declared.fault.DeviceFault.{DeviceFault}
use Rattle.device.specs.Faults.{fault_number, fault_block}
use Rattle.volume.specs.Rules.{rule_number}
use Rattle.volume.specs.declared.fault.FileFault.{FileFault}
use Rattle.volume.specs.declared.fault.FileFault.TheVariants.{OfDevice, NotSound, UnlawfulName, NoSuchFile, NameExists, Protected, NoRoom, DirectoryFull, OutOfRange, TooDeep, NotMounted, EmptyContainer, UnlawfulDate, WorkspaceTooSmall, ListingTooSmall, OutputOpen, NoOutput}

-- the number that is returned
abbrev pub file_number : FileFault → ℕ
file_number (OfDevice e) = fault_number e
file_number (NotSound rule) = 5
file_number UnlawfulName = 6
file_number NoSuchFile = 7
file_number NameExists = 8
file_number Protected = 9
file_number NoRoom = 10
file_number DirectoryFull = 11
file_number OutOfRange = 12
file_number TooDeep = 13
file_number NotMounted = 13
file_number EmptyContainer = 14
file_number UnlawfulDate = 15
file_number WorkspaceTooSmall = 18
file_number ListingTooSmall = 18
file_number OutputOpen = 19
file_number NoOutput = 19

-- the block that the device refused, or the rule that is broken; else 0
abbrev pub file_detail : FileFault → ℕ
file_detail (OfDevice e) = fault_block e
file_detail (NotSound rule) = rule_number rule
file_detail UnlawfulName = 0
file_detail NoSuchFile = 0
file_detail NameExists = 0
file_detail Protected = 0
file_detail NoRoom = 0
file_detail DirectoryFull = 0
file_detail OutOfRange = 0
file_detail TooDeep = 0
file_detail NotMounted = 0
file_detail EmptyContainer = 0
file_detail UnlawfulDate = 0
file_detail WorkspaceTooSmall = 0
file_detail ListingTooSmall = 0
file_detail OutputOpen = 0
file_detail NoOutput = 0

-- a device's answer, and then the next unless the device refuses
abbrev pub after : {A B : Type 0} → Result A DeviceFault → Result B FileFault → Result B FileFault
after (Ok x) r = r
after (Err e) r = Err (OfDevice e)
