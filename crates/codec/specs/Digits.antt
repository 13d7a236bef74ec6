-- Digits of numbers.
use Rattle.std.specs.Prelude.{ℕ, zero, suc, ◌+◌, ◌/◌, ◌%◌, ◌^◌, List, [], ◌∷◌}

-- the digit of n that stands for so many
abbrev pub digit_at : ℕ → ℕ → ℕ
digit_at n unit = 48 + n / unit % 10

-- the last k digits of n, with zeros in front
abbrev pub digits_of : ℕ → ℕ → List ℕ
digits_of zero n = []
digits_of (suc k) n = digit_at n (10 ^ k) ∷ digits_of k n

abbrev pub two : ℕ → List ℕ
two n = digits_of 2 n
