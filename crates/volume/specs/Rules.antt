-- The numbers of the rules of a sound level.
use Rattle.std.specs.Prelude.{ℕ, cond, Ok, Err, Result, ◌==◌}
use Rattle.volume.specs.declared.rule.Rule.{Rule}
use Rattle.volume.specs.declared.rule.Rule.TheVariants.{LevelSize, DirectorySize, SegmentsInUse, Chain, ExtraBytes, Entries, Contiguous, Names, NameTwice}

abbrev pub rule_number : Rule → ℕ
rule_number LevelSize = 1
rule_number DirectorySize = 2
rule_number SegmentsInUse = 3
rule_number Chain = 4
rule_number ExtraBytes = 5
rule_number Entries = 6
rule_number Contiguous = 7
rule_number Names = 8
rule_number NameTwice = 9

-- the number that an answer tells: 0 where no rule is broken
abbrev pub told : Result (Unit {0}) Rule → ℕ
told (Ok u) = 0
told (Err r) = rule_number r

-- the rule of a number from 1 to 9
abbrev pub rule_of : ℕ → Rule
rule_of n =
    cond (n == 1) LevelSize
    (cond (n == 2) DirectorySize
    (cond (n == 3) SegmentsInUse
    (cond (n == 4) Chain
    (cond (n == 5) ExtraBytes
    (cond (n == 6) Entries
    (cond (n == 7) Contiguous
    (cond (n == 8) Names
    NameTwice)))))))
