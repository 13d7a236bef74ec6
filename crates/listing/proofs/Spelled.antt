-- The digits of numbers, by their columns.
use Rattle.std.proofs.Common.{◌≡◌, ℕ, ◌/◌, ◌^◌, ◌<◌, ◌≤◌, ◌⊎◌, List, [], ◌∷◌, ◌++◌, ap, ◌∙◌, inl, inr, arith}
use Rattle.std.proofs.lemmas.Fmt.{decimal_digit, decimal_step}
use Rattle.std.proofs.lemmas.Bool.{cases_lt, lt-ltb, le-ltb}
use Rattle.codec.specs.Digits.{digit_at, two}
use Rattle.codec.proofs.Tens.{front}
use Rattle.listing.specs.Listings.{four, right_in, plain}
use Rattle.listing.specs.Columns.{column_at}

-- one digit, and one digit more
pub one_digit : (n : ℕ) → n < 10 → plain n ≡ digit_at n 1 ∷ []
one_digit n h = decimal_digit n h ∙ ap (λ (d : ℕ). d ∷ []) (omega arith)

pub digit_more : (n : ℕ) → 10 ≤ n → n < 2 ^ 32 → plain n ≡ plain (n / 10) ++ (digit_at n 1 ∷ [])
digit_more n h k = decimal_step n h (omega arith) ∙ ap (λ (d : ℕ). plain (n / 10) ++ (d ∷ [])) (omega arith)

-- numbers of two to five digits
step : (n : ℕ) (ds : List ℕ) → 10 ≤ n → n < 65536 → plain (n / 10) ≡ ds → plain n ≡ ds ++ (digit_at n 1 ∷ [])
step n ds h k e = digit_more n h (omega arith) ∙ ap (λ (xs : List ℕ). xs ++ (digit_at n 1 ∷ [])) e

two_digits : (n : ℕ) → 10 ≤ n → n < 100 → plain n ≡ two n
two_digits n h k = step n _ h (omega arith) (one_digit (n / 10) (omega arith)) ∙ rw (front n 1)

three_digits : (n : ℕ) → 100 ≤ n → n < 1000 → plain n ≡ digit_at n 100 ∷ two n
three_digits n h k = step n _ (omega arith) (omega arith) (two_digits (n / 10) (omega arith) (omega arith)) ∙ rw (front n 10, front n 1)

four_digits : (n : ℕ) → 1000 ≤ n → n < 10000 → plain n ≡ four n
four_digits n h k = step n _ (omega arith) (omega arith) (three_digits (n / 10) (omega arith) (omega arith)) ∙ rw (front n 100, front n 10, front n 1)

five_digits : (n : ℕ) → 10000 ≤ n → n < 65536 → plain n ≡ digit_at n 10000 ∷ four n
five_digits n h k = step n _ (omega arith) (omega arith) (four_digits (n / 10) (omega arith) (omega arith)) ∙ rw (front n 1000, front n 100, front n 10, front n 1)

abbrev columns : ℕ → List ℕ
columns n = column_at n 10000 ∷ column_at n 1000 ∷ column_at n 100 ∷ column_at n 10 ∷ digit_at n 1 ∷ []

pub in_columns : (n : ℕ) → n < 65536 → columns n ≡ right_in 5 (plain n)
in_columns n h = go (cases_lt n 10) (cases_lt n 100) (cases_lt n 1000) (cases_lt n 10000)
  where
    go : (n < 10) ⊎ (10 ≤ n) → (n < 100) ⊎ (100 ≤ n) → (n < 1000) ⊎ (1000 ≤ n) → (n < 10000) ⊎ (10000 ≤ n) → columns n ≡ right_in 5 (plain n)
    go (inl a) _ _ _ = rw (one_digit n a, lt-ltb n 10000 (omega arith), lt-ltb n 1000 (omega arith), lt-ltb n 100 (omega arith), lt-ltb n 10 a)
    go (inr a) (inl b) _ _ = rw (two_digits n a b, lt-ltb n 10000 (omega arith), lt-ltb n 1000 (omega arith), lt-ltb n 100 b, le-ltb n 10 a)
    go (inr a) (inr b) (inl d) _ = rw (three_digits n b d, lt-ltb n 10000 (omega arith), lt-ltb n 1000 d, le-ltb n 100 b, le-ltb n 10 a)
    go (inr a) (inr b) (inr d) (inl e) = rw (four_digits n d e, lt-ltb n 10000 e, le-ltb n 1000 d, le-ltb n 100 b, le-ltb n 10 a)
    go (inr a) (inr b) (inr d) (inr e) = rw (five_digits n e h, le-ltb n 10000 e, le-ltb n 1000 d, le-ltb n 100 b, le-ltb n 10 a)
