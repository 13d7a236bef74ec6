-- Words of 16 bits, low byte first.
use Rattle.std.specs.Prelude.{ℕ, ◌+◌, ◌*◌, ◌/◌, ◌%◌, List, [], ◌∷◌, ◌++◌, length, take, drop, slice_index}

-- the word at a place of some bytes
abbrev pub word_at : List ℕ → ℕ → ℕ
word_at bs at = slice_index bs at + 256 * slice_index bs (at + 1)

-- the two bytes of a word
abbrev pub word_bytes : ℕ → List ℕ
word_bytes w = w % 256 ∷ w / 256 ∷ []

-- some bytes with xs written over those at a place
unfoldable pub written : List ℕ → ℕ → List ℕ → List ℕ
written bs at xs = take at bs ++ (xs ++ drop (at + length xs) bs)
