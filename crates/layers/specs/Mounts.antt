-- Mounting and dismounting on a level table.
use Rattle.std.specs.Prelude.{ℕ, ◌+◌, ◌-◌, cond, [], ◌∷◌, ◌++◌, length, take, drop, replicate, Ok, Err, Result, nat_le, nat_lt}
use Rattle.device.specs.declared.level.Level.{Level}
use Rattle.device.specs.Fixed.{Table}
use Rattle.layers.specs.Nested.{innermost}
use Rattle.layers.specs.declared.table.LevelFault.{LevelFault}
use Rattle.layers.specs.declared.table.LevelFault.TheVariants.{TooDeep, NotMounted, Outside}

abbrev pub fault_number : LevelFault → ℕ
fault_number TooDeep = 13
fault_number NotMounted = 13
fault_number Outside = 12

abbrev pub level : ℕ → ℕ → Level
level start length = record { start = start; length = length }

-- the table of a device of n blocks
abbrev pub new_table : ℕ → Table
new_table n = record { whole = level 0 n; mounted = []; spare = replicate 7 (level 0 n) }

-- the record of the deepest level
abbrev pub deepest_level : Table → Level
deepest_level t = innermost t.whole t.mounted

-- a level of n blocks from block s of the deepest: at most seven, and inside
abbrev pub mount_answer : Table → ℕ → ℕ → Result (Unit {0}) LevelFault
mount_answer t s n = cond (nat_lt (length t.mounted) 7) (cond (nat_le (s + n) (deepest_level t).length) (Ok tt) (Err Outside)) (Err TooDeep)

abbrev pub mount_by : Result (Unit {0}) LevelFault → Table → ℕ → ℕ → Table
mount_by (Ok u) t s n = record { whole = t.whole; mounted = t.mounted ++ level s n ∷ []; spare = drop 1 t.spare }
mount_by (Err e) t s n = t

abbrev pub mount_table : Table → ℕ → ℕ → Table
mount_table t s n = mount_by (mount_answer t s n) t s n

-- back to the level around: the record of the level that is left stands first behind the others
abbrev pub dismount_answer : Table → Result (Unit {0}) LevelFault
dismount_answer t = cond (nat_lt 0 (length t.mounted)) (Ok tt) (Err NotMounted)

abbrev pub dismount_by : Result (Unit {0}) LevelFault → Table → Table
dismount_by (Ok u) t =
    record { whole = t.whole; mounted = take (length t.mounted - 1) t.mounted; spare = drop (length t.mounted - 1) t.mounted ++ t.spare }
dismount_by (Err e) t = t

abbrev pub dismount_table : Table → Table
dismount_table t = dismount_by (dismount_answer t) t
