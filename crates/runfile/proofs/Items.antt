-- The items of a run, one after another.
use Rattle.std.proofs.Common.{◌≡◌, ℕ, zero, suc, ◌+◌, ◌*◌, ◌<◌, ◌≤◌, List, [], ◌∷◌, length, drop, refl, ap, ◌∙◌, ⊎_elim, arith}
use Rattle.std.proofs.lemmas.List.{length-drop}
use Rattle.std.proofs.lemmas.Bool.{cases_lt}
use Rattle.runfile.specs.Pieces.{Piece, ended, whole, short, next_piece}
use Rattle.runfile.specs.Items.{field, rump, joined, up_to, items}
use Rattle.runfile.proofs.Pieces.{sized_whole, sized_short}

-- what follows a field is shorter than what began with it
pub shorter : (run : List ℕ) (tag : ℕ) (body rest : List ℕ) → next_piece run ≡ whole tag body rest → length rest < length run
shorter [] tag body rest e = let z : ◌≡◌ {A = ℕ} 0 1 = cc in absurd (omega arith)
shorter (x ∷ []) tag body rest e = let z : ◌≡◌ {A = ℕ} 0 1 = cc in absurd (omega arith)
shorter (x ∷ y ∷ []) tag body rest e = let z : ◌≡◌ {A = ℕ} 0 1 = cc in absurd (omega arith)
shorter (x ∷ y ∷ z ∷ xs) tag body rest e =
    ⊎_elim
    (λ lt. let w = sized_short x (y + 256 * z) xs lt in let n : ◌≡◌ {A = ℕ} 0 1 = cc in absurd (omega arith))
    (λ fits. let w = sized_whole x (y + 256 * z) xs fits in let same : rest ≡ drop (y + 256 * z) xs = cc in rw same (simp length-drop (omega arith)))
    (cases_lt (length xs) (y + 256 * z))

-- a run is no longer than its items allow
pub enough : (j k : ℕ) (run : List ℕ) → length run ≤ j → length run ≤ k → up_to j run ≡ up_to k run
enough zero zero run h i = refl
enough zero (suc k) [] h i = refl
enough zero (suc k) (x ∷ xs) h i = absurd (omega arith)
enough (suc j) zero [] h i = refl
enough (suc j) zero (x ∷ xs) h i = absurd (omega arith)
enough (suc j) (suc k) run h i = go (next_piece run) refl (λ rest lt. enough j k rest (omega arith) (omega arith))
  where
    go : (p : Piece) → next_piece run ≡ p → ((rest : List ℕ) → length rest < length run → up_to j rest ≡ up_to k rest) → joined (up_to j) p ≡ joined (up_to k) p
    go ended e same = refl
    go short e same = refl
    go (whole tag body rest) e same = ap (λ r. field tag body ∷ r) (same rest (shorter run tag body rest e))

-- the items of a run that begins with a field
pub items_field : (run : List ℕ) (tag : ℕ) (body rest : List ℕ) → next_piece run ≡ whole tag body rest → items run ≡ field tag body ∷ items rest
items_field run tag body rest e = go run refl e
  where
    go : (r : List ℕ) → run ≡ r → next_piece r ≡ whole tag body rest → items r ≡ field tag body ∷ items rest
    go [] q e = let z : ◌≡◌ {A = ℕ} 0 1 = cc in absurd (omega arith)
    go (x ∷ xs) q e =
        let s = shorter (x ∷ xs) tag body rest e in
        ap (joined (up_to (length xs))) e ∙ ap (λ t. field tag body ∷ t) (enough (length xs) (length rest) rest (omega arith) (omega arith))

-- of one that is cut short at once
pub items_short : (run : List ℕ) → next_piece run ≡ short → items run ≡ rump ∷ []
items_short [] e = let z : ◌≡◌ {A = ℕ} 0 1 = cc in absurd (omega arith)
items_short (x ∷ xs) e = ap (joined (up_to (length xs))) e

-- and of an empty one
pub items_none : (run : List ℕ) → next_piece run ≡ ended → items run ≡ []
items_none [] e = refl
items_none (x ∷ xs) e = ap (joined (up_to (length xs))) e
