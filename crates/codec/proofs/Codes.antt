-- Codes, characters and words.
use Rattle.std.proofs.Common.{◌≡◌, ℕ, ◌+◌, ◌*◌, ◌/◌, ◌%◌, ◌<◌, true, ◌||◌, eqb, ◌≢◌, [], ◌∷◌, arith}
use Rattle.std.proofs.lemmas.Bool.Decides.{nat_tests}
use Rattle.codec.specs.Names.{code, character, is_name_character, codes_in, Told}

pub code_below : (c : ℕ) → code c < 40
unfolding code
code_below c = grind (arith, nat_tests)

-- there and back
pub told : (k : ℕ) → k < 40 → Told k
told k h = grind (arith, nat_tests)

pub code-character : (k : ℕ) → k < 40 → k ≢ 29 → code (character k) ≡ k
unfolding code
code-character k h n = grind (arith, nat_tests)

pub character-code : (c : ℕ) → (eqb c 32 || is_name_character c) ≡ true → character (code c) ≡ c
unfolding code
character-code c h = grind (arith, nat_tests)

-- the codes of a word of three
pub codes_three : (x y z : ℕ) → x < 40 → y < 40 → z < 40 → codes_in ((x * 40 + y) * 40 + z) ≡ x ∷ y ∷ z ∷ []
codes_three x y z hx hy hz =
    let a : ((x * 40 + y) * 40 + z) / 1600 ≡ x = omega arith in
    let b : ((x * 40 + y) * 40 + z) / 40 % 40 ≡ y = omega arith in
    let c : ((x * 40 + y) * 40 + z) % 40 ≡ z = omega arith in
    rw (a, b, c)
