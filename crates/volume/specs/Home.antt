-- The home block.
use Rattle.std.specs.Prelude.{ℕ, zero, suc, ◌+◌, ◌*◌, ◌%◌, List, ◌++◌, take, replicate, codes}
use Rattle.codec.specs.Words.{word_at, word_bytes}

-- the sum of the first n words
unfoldable pub words_sum : List ℕ → ℕ → ℕ
words_sum bs zero = 0
words_sum bs (suc n) = words_sum bs n + word_at bs (2 * n)

-- The bytes 130 to 509: zeros; pack cluster size, first directory block and system version (V05 in RAD50); volume, owner and
-- system identification; a word of zero.
abbrev pub home_texts : List ℕ
home_texts =
    replicate 336 0
    ++ (word_bytes 1 ++ (word_bytes 6 ++ (word_bytes 36435
    ++ (codes "RT11A       " ++ (codes "            " ++ (codes "DECRT11A    " ++ replicate 2 0))))))

-- the bytes 0 to 509, by the old home block
unfoldable pub home_front : List ℕ → List ℕ
home_front old = take 130 old ++ home_texts

-- the home block of a new volume: the last word is the sum of those before it
unfoldable pub home : List ℕ → List ℕ
home old = home_front old ++ word_bytes (words_sum (home_front old) 255 % 65536)
