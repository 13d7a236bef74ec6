-- The number and the detail of each refusal of a field.
use Rattle.std.specs.Prelude.{ℕ, Ok, Err, Result}
use Rattle.volume.specs.Faults.{file_number, file_detail}
use Rattle.runfile.specs.declared.fault.FieldFault.{FieldFault}
use Rattle.runfile.specs.declared.fault.FieldFault.TheVariants.{OfFile, UnknownTag, WrongLength}

abbrev pub field_number : FieldFault → ℕ
field_number (OfFile e) = file_number e
field_number UnknownTag = 16
field_number WrongLength = 16

abbrev pub field_detail : FieldFault → ℕ
field_detail (OfFile e) = file_detail e
field_detail UnknownTag = 0
field_detail WrongLength = 0

-- 0 for a field that was accepted
abbrev pub result_number : Result (Unit {0}) FieldFault → ℕ
result_number (Ok u) = 0
result_number (Err e) = field_number e

abbrev pub result_detail : Result (Unit {0}) FieldFault → ℕ
result_detail (Ok u) = 0
result_detail (Err e) = field_detail e
