-- A field in the words of the code that reads it.
use Rattle.std.proofs.Common.{◌≡◌, ℕ, ◌+◌, ◌*◌, ◌<◌, ◌≤◌, List, [], ◌∷◌, length, get_or, take, drop, arith}
use Rattle.std.proofs.lemmas.Bool.{cond-true, cond-false, le-leb, lt-leb}
use Rattle.runfile.specs.Pieces.{whole, short, sized, next_piece}

-- the piece of three bytes and more, in the words of the code
pub piece_at : (run : List ℕ) (low high : ℕ) → 3 ≤ length run → low ≡ get_or run 1 0 → high ≡ get_or run 2 0 → next_piece run ≡ sized (get_or run 0 0) (low + 256 * high) (drop 3 run)
piece_at [] low high h a b = absurd (omega arith)
piece_at (x ∷ []) low high h a b = absurd (omega arith)
piece_at (x ∷ y ∷ []) low high h a b = absurd (omega arith)
piece_at (x ∷ y ∷ z ∷ rest) low high h a b = rw (a, b)

pub sized_whole : (tag size : ℕ) (rest : List ℕ) → size ≤ length rest → sized tag size rest ≡ whole tag (take size rest) (drop size rest)
sized_whole tag size rest h = cond-true _ _ _ (le-leb size (length rest) h)

pub sized_short : (tag size : ℕ) (rest : List ℕ) → length rest < size → sized tag size rest ≡ short
sized_short tag size rest h = cond-false _ _ _ (lt-leb size (length rest) h)
