-- The lines of the report.
use Rattle.std.specs.Prelude.{ℕ, List, [], ◌∷◌, ◌++◌}
use Rattle.codec.specs.Digits.{digits_of, two}

abbrev pub five : ℕ → List ℕ
five n = digits_of 5 n

abbrev pub seven : ℕ → List ℕ
seven n = digits_of 7 n

-- a line of 20 bytes: number, tag, result and detail, blanks between, line feed
unfoldable pub line_of : ℕ → ℕ → ℕ → ℕ → List ℕ
line_of number tag result detail = five number ++ (32 ∷ (two tag ++ (32 ∷ (two result ++ (32 ∷ (seven detail ++ (10 ∷ [])))))))
