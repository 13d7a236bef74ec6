-- Whether a file is present and protected, by its place.
use Rattle.std.proofs.Common.{◌≡◌, ℕ, ◌+◌, ◌≤◌, Bool, true, false, not, ◌&&◌, eqb, List, [], ◌∷◌, length, is_some, Some, None, Option, sym, refl, ap, ◌∙◌, inl, inr, arith}
use Rattle.std.specs.Option.{option_map}
use Rattle.std.proofs.lemmas.Bool.{cases_Bool, cond-true, cond-false, and_left, ne_eqb}
use Rattle.codec.specs.declared.name.Name.{Name}
use Rattle.volume.specs.declared.entry.Entry.{Entry}
use Rattle.edits.specs.Entries.{is_named, is_protected, is_guarded, count, any, Standing, standing}
use Rattle.edits.specs.Directories.{entries_of, first_block}
use Rattle.edits.specs.Asks.{Place, places}
use Rattle.edits.specs.Edits.{present, guarded}
use Rattle.edits.specs.Values.{value_of}
use Rattle.edits.proofs.Counts.{one, count-nil, count-cons, count_yes, count_no, count_head}
use Rattle.edits.proofs.Places.{counted_places}
use Rattle.places.specs.declared.place.FilePlace.{FilePlace}
use Rattle.places.specs.Places.{first, file_at, file_place}
use Rattle.places.proofs.Telling.{file_some, file-none}

-- there is a file of a name where it has a place
pub file-present : (dir : List ℕ) (n : Name) → present (value_of dir) n ≡ is_some (file_place dir n)
unfolding file_place
file-present dir n = go (places (is_named n) (value_of dir).segments) (counted_places (is_named n) 0 (value_of dir).segments)
  where
    go : (l : List Place) → length l ≡ count (is_named n) (entries_of (value_of dir))
        → any (is_named n) (entries_of (value_of dir)) ≡ is_some (option_map (file_at dir) (first l))
    go [] h = ap (λ (m : ℕ). not (eqb m 0)) (sym h)
    go (a ∷ l) h = ap not (ne_eqb (count (is_named n) (entries_of (value_of dir))) 0 (λ q. omega (arith, h, q)))

module _ (n : Name) where
  unguarded : (e : Entry) → is_named n e ≡ false → is_guarded n e ≡ false
  unguarded e h = and_left (is_named n e) (is_protected e) h

  -- no file of a name, and so no protected one
  none-guarded : (es : List Entry) → count (is_named n) es ≡ 0 → count (is_guarded n) es ≡ 0
  none-guarded [] h = count-nil (is_guarded n)
  none-guarded (e ∷ es) h =
      let no = count_head (is_named n) e es h in
      count_no (is_guarded n) e es (unguarded e no) ∙ none-guarded es (sym (count_no (is_named n) e es no) ∙ h)

  -- the one file of a name
  one-guarded : (at : ℕ) (es : List Entry) (s : Standing) → count (is_named n) es ≤ 1 → standing (is_named n) at es ≡ Some s
      → count (is_guarded n) es ≡ one (is_protected s.entry)
  unfolding standing
  one-guarded at [] s h q = absurd (let z : ◌≡◌ {A = ℕ} 0 1 = cc in omega arith)
  one-guarded at (e ∷ es) s h q =
      elim (cases_Bool (is_named n e)) [
        | inl y ↦
            let here : ◌≡◌ {A = Option Standing} (Some (record { start = at; entry = e })) (Some s) = sym (cond-true _ _ _ y) ∙ q in
            let same : e ≡ s.entry = cc in
            let rest : count (is_guarded n) es ≡ 0 = none-guarded es (omega (arith, h, count_yes (is_named n) e es y)) in
            let guard : is_guarded n e ≡ is_protected e = ap (λ (t : Bool). t && is_protected e) y in
            let all : count (is_guarded n) (e ∷ es) ≡ one (is_protected e) + count (is_guarded n) es
            = count-cons (is_guarded n) e es ∙ ap (λ (t : Bool). one t + count (is_guarded n) es) guard in
            let sum : count (is_guarded n) (e ∷ es) ≡ one (is_protected e) = omega (arith, all, rest) in
            sum ∙ ap (λ (d : Entry). one (is_protected d)) same
        | inr y ↦
            count_no (is_guarded n) e es (unguarded e y)
            ∙ one-guarded (at + e.length) es s (omega (arith, h, count_no (is_named n) e es y)) (sym (cond-false _ _ _ y) ∙ q)
      ]

-- where no two files have one name, the file of a name is protected as its place tells
pub file-guarded : (dir : List ℕ) (n : Name) (f : FilePlace) → count (is_named n) (entries_of (value_of dir)) ≤ 1 → Some f ≡ file_place dir n
    → guarded (value_of dir) n ≡ f.protected
file-guarded dir n f h q =
    let t = file_some dir n f q in
    ap (λ (m : ℕ). not (eqb m 0)) (one-guarded n (first_block (value_of dir)) (entries_of (value_of dir)) _ h t.told.starts)
    ∙ (tested (is_protected t.entry) ∙ sym t.guarded)
  where
    tested : (b : Bool) → not (eqb (one b) 0) ≡ b
    tested true = refl
    tested false = refl

pub none_protected : (dir : List ℕ) (n : Name) → None ≡ file_place dir n → guarded (value_of dir) n ≡ false
none_protected dir n q =
    let none : count (is_named n) (entries_of (value_of dir)) ≡ 0
    = sym (counted_places (is_named n) 0 (value_of dir).segments) ∙ ap length (file-none dir n q) in
    ap (λ (m : ℕ). not (eqb m 0)) (none-guarded n (entries_of (value_of dir)) none)
