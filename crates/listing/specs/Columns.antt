-- The columns of a number that is right-aligned.
use Rattle.std.specs.Prelude.{ℕ, cond, nat_lt}
use Rattle.codec.specs.Digits.{digit_at}

-- the digit of n that stands for so many, or a blank in front of its first
abbrev pub column_at : ℕ → ℕ → ℕ
column_at n unit = cond (nat_lt n unit) 32 (digit_at n unit)
