-- How a run file is cut into fields.
use Rattle.std.specs.Prelude.{ℕ, ◌+◌, ◌*◌, cond, List, [], ◌∷◌, length, take, drop, Some, None, Ok, Err, Option, Result, nat_le}
use Rattle.runfile.specs.declared.field.CutShort.{CutShort}
use Rattle.runfile.specs.declared.field.Part.{Part}

-- what a run begins with: nothing, a field that is cut short, or a field with its tag, its body and what follows
pub data Piece : Type 0 where
  ended : Piece
  short : Piece
  whole : ℕ → List ℕ → List ℕ → Piece

abbrev pub sized : ℕ → ℕ → List ℕ → Piece
sized tag size rest = cond (nat_le size (length rest)) (whole tag (take size rest) (drop size rest)) short

abbrev pub next_piece : List ℕ → Piece
next_piece [] = ended
next_piece (tag ∷ []) = short
next_piece (tag ∷ low ∷ []) = short
next_piece (tag ∷ low ∷ high ∷ rest) = sized tag (low + 256 * high) rest

abbrev pub piece_of : Result (Option Part) CutShort → Piece
piece_of (Ok None) = ended
piece_of (Ok (Some p)) = whole p.tag p.body.now p.rest.now
piece_of (Err e) = short
