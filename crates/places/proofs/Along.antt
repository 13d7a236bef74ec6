-- Entries along the chain and their places in the directory as a value.
use Rattle.std.proofs.Common.{◌≡◌, ℕ, suc, ◌+◌, ◌*◌, Bool, true, List, [], ◌∷◌, ◌++◌, map, get_or, take, sym, refl, ap, ◌∙◌, subst, inl, inr, add-zero, zero-add, add-one, arith}
use Rattle.std.specs.Option.{option_map}
use Rattle.std.proofs.lemmas.List.{append_assoc, map-append}
use Rattle.std.proofs.lemmas.List.Elements.{filter-append}
use Rattle.std.proofs.lemmas.Bool.{cases_Bool, cond-true, cond-false}
use Rattle.codec.specs.Words.{word_at}
use Rattle.volume.specs.declared.entry.Entry.{Entry}
use Rattle.segment.specs.Directories.{Segment, flat, entries_at, chain_of}
use Rattle.directory.specs.declared.placed.Placed.{Placed}
use Rattle.directory.specs.Walks.{placed, placed_in, chained_from}
use Rattle.edits.specs.Entries.{is_empty, empty_of, blocks_of}
use Rattle.edits.specs.Directories.{place_entries}
use Rattle.edits.specs.Asks.{Place, places_in, places_from, places}
use Rattle.edits.specs.Values.{cleaned, values_of, value_of}
use Rattle.edits.proofs.Counts.{blocks_append}
use Rattle.places.specs.Places.{start_in, place_start, number_of, first}
use Rattle.places.specs.Searches.{chained_of, passing}

-- an entry as it is written again is as long as it was, and one that is no empty is the same
pub cleaned-length : (e : Entry) → (cleaned e).length ≡ e.length
cleaned-length e =
    elim (cases_Bool (is_empty e)) [
      | inl y ↦ ap (λ (x : Entry). x.length) (cond-true (is_empty e) (empty_of e.length) e y)
      | inr y ↦ ap (λ (x : Entry). x.length) (cond-false (is_empty e) (empty_of e.length) e y)
    ]

pub blocks_cleaned : (es : List Entry) → blocks_of (map cleaned es) ≡ blocks_of es
unfolding blocks_of
blocks_cleaned [] = refl
blocks_cleaned (e ∷ es) = omega (arith, cleaned-length e, blocks_cleaned es)

-- starts in the first segment and in those behind it
pub start_first : (at : ℕ) (s : Segment) (ss : List Segment) (i : ℕ) → start_in at (s ∷ ss) 0 i ≡ at + blocks_of (take i s.entries)
unfolding start_in flat place_entries
start_first at s ss i = refl

pub start_next : (at : ℕ) (s : Segment) (ss : List Segment) (k i : ℕ) → start_in at (s ∷ ss) (suc k) i ≡ start_in (at + blocks_of s.entries) ss k i
unfolding start_in flat place_entries
start_next at s ss k i =
    let on : List Entry = flat (take k ss) in
    let here : List Entry = take i (place_entries ss k) in
    let cut : blocks_of ((s.entries ++ on) ++ here) ≡ blocks_of s.entries + blocks_of (on ++ here)
    = ap blocks_of (append_assoc s.entries on here) ∙ blocks_append s.entries (on ++ here) in
    omega (arith, cut)

-- a test on entries and one on entries in their places; what is told of a place and of an entry in its place
module _ {R : Type 0} (q : Placed → Bool) (p : Entry → Bool) (same : (k i at : ℕ) (e : Entry) → q (placed k i at e) ≡ p (cleaned e)) (f : ℕ × Placed → R) where
  -- what is told of entry i of segment k at place pl, starting at a block
  Told : (Place → R) → ℕ → ℕ → ℕ → ℕ → Entry → Type 0
  Told g k pl i at e = f (pl, placed k i at e) ≡ g (record { segment = pl; index = i; entry = cleaned e })

  in_segment : (g : Place → R) (k pl i at : ℕ) (es : List Entry)
      → ((j : ℕ) (e : Entry) → p (cleaned e) ≡ true → Told g k pl (i + j) (at + blocks_of (take j (map cleaned es))) e)
      → map f (passing q (map (λ x. (pl, x)) (placed_in k i at es))) ≡ map g (places_in p pl i (map cleaned es))
  unfolding placed_in places_in passing blocks_of Told
  in_segment g k pl i at [] h = refl
  in_segment g k pl i at (e ∷ es) h =
      let on : (j : ℕ) (d : Entry) → p (cleaned d) ≡ true → Told g k pl ((i + 1) + j) ((at + e.length) + blocks_of (take j (map cleaned es))) d
      = λ j d y.
      let b : at + ((cleaned e).length + blocks_of (take j (map cleaned es))) ≡ (at + e.length) + blocks_of (take j (map cleaned es)) = omega (arith, cleaned-length e) in
      let n : i + suc j ≡ (i + 1) + j = omega arith in
      subst (λ (z : ℕ). Told g k pl z ((at + e.length) + blocks_of (take j (map cleaned es))) d) n
      (subst (λ (z : ℕ). Told g k pl (i + suc j) z d) b (h (suc j) d y)) in
      let more : map f (passing q (map (λ x. (pl, x)) (placed_in k (i + 1) (at + e.length) es))) ≡ map g (places_in p pl (suc i) (map cleaned es))
      = in_segment g k pl (i + 1) (at + e.length) es on ∙ ap (λ (z : ℕ). map g (places_in p pl z (map cleaned es))) (add-one i) in
      elim (cases_Bool (p (cleaned e))) [
        | inl y ↦
            let here : Told g k pl i at e
            = subst (λ (z : ℕ). Told g k pl z at e) (add-zero i) (subst (λ (z : ℕ). Told g k pl (i + 0) z e) (add-zero at) (h 0 e y)) in
            ap (map f) (cond-true _ _ _ (same k i at e ∙ y)) ∙ (ap (λ (r : R). r ∷ map f (passing q (map (λ x. (pl, x)) (placed_in k (i + 1) (at + e.length) es)))) here
            ∙ (ap (λ (l : List R). g (record { segment = pl; index = i; entry = cleaned e }) ∷ l) more ∙ sym (ap (map g) (cond-true _ _ _ y))))
        | inr y ↦ ap (map f) (cond-false _ _ _ (same k i at e ∙ y)) ∙ (more ∙ sym (ap (map g) (cond-false _ _ _ y)))
      ]

  first-told : (g : Place → R) (k pl at : ℕ) (s : Segment) (ss : List Segment) (i : ℕ) (e : Entry)
      → Told g k (pl + 0) i (start_in at (s ∷ ss) 0 i) e → Told g k pl (0 + i) (at + blocks_of (take i s.entries)) e
  first-told g k pl at s ss i e t =
      subst (λ (z : ℕ). Told g k pl z (at + blocks_of (take i s.entries)) e) (sym (zero-add i))
      (subst (λ (z : ℕ). Told g k pl i z e) (start_first at s ss i) (subst (λ (z : ℕ). Told g k z i (start_in at (s ∷ ss) 0 i) e) (add-zero pl) t))

  next_told : (g : Place → R) (k pl at b : ℕ) (s : Segment) (ss : List Segment) (j i : ℕ) (e : Entry) → blocks_of s.entries ≡ b
      → Told g k (pl + suc j) i (start_in at (s ∷ ss) (suc j) i) e → Told g k ((pl + 1) + j) i (start_in (at + b) ss j i) e
  next_told g k pl at b s ss j i e h t =
      let n : pl + suc j ≡ (pl + 1) + j = omega arith in
      subst (λ (z : ℕ). Told g k z i (start_in (at + b) ss j i) e) n
      (subst (λ (z : ℕ). Told g k (pl + suc j) i z e) (start_next at s ss j i ∙ ap (λ (z : ℕ). start_in (at + z) ss j i) h) t)

  along : (g : Place → R) (x : ℕ) (dir : List ℕ) (pl at : ℕ) (ks : List ℕ)
      → ((j i : ℕ) (e : Entry) → p (cleaned e) ≡ true → Told g (get_or ks j 0) (pl + j) i (start_in at (values_of x dir ks) j i) e)
      → map f (passing q (chained_from x dir pl 0 at ks)) ≡ map g (places_from p pl (values_of x dir ks))
  unfolding chained_from places_from values_of passing
  along g x dir pl at [] h = refl
  along g x dir pl at (k ∷ ks) h =
      let es : List Entry = entries_at x dir k in
      let seg : Segment = record { number = k; entries = map cleaned es } in
      let one : List (ℕ × Placed) = map (λ y. (pl, y)) (placed_in k 0 at es) in
      let two : List (ℕ × Placed) = chained_from x dir (pl + 1) 0 (at + blocks_of es) ks in
      let split : map f (passing q (one ++ two)) ≡ map f (passing q one) ++ map f (passing q two)
      = ap (map f) (filter-append (λ (c : ℕ × Placed). q c.1) one two) ∙ map-append f (passing q one) (passing q two) in
      let here : map f (passing q one) ≡ map g (places_in p pl 0 (map cleaned es)) = in_segment g k pl 0 at es (λ j e y. first-told g k pl at seg (values_of x dir ks) j e (h 0 j e y)) in
      let there : map f (passing q two) ≡ map g (places_from p (suc pl) (values_of x dir ks))
      = along g x dir (pl + 1) (at + blocks_of es) ks (λ j i e y. next_told g (get_or ks j 0) pl at (blocks_of es) seg (values_of x dir ks) j i e (blocks_cleaned es) (h (suc j) i e y))
      ∙ ap (λ (z : ℕ). map g (places_from p z (values_of x dir ks))) (add-one pl) in
      split ∙ (ap (λ (l : List R). l ++ map f (passing q two)) here
      ∙ (ap (λ (l : List R). map g (places_in p pl 0 (map cleaned es)) ++ l) there
      ∙ sym (map-append g (places_in p pl 0 (map cleaned es)) (places_from p (suc pl) (values_of x dir ks)))))

  -- the entries of a directory that pass, and their places
  pub gathered : (dir : List ℕ) (g : ℕ → ℕ → Place → R)
      → ((k pl i at : ℕ) (e : Entry) → p (cleaned e) ≡ true → f (pl, placed k i at e) ≡ g k at (record { segment = pl; index = i; entry = cleaned e }))
      → map f (passing q (chained_of dir)) ≡ map (λ a. g (number_of dir a) (place_start (value_of dir) a) a) (places p (value_of dir).segments)
  unfolding chained_of value_of Told
  gathered dir g h =
      along (λ a. g (number_of dir a) (place_start (value_of dir) a) a) (word_at dir 6) dir 0 (6 + 2 * word_at dir 0) (chain_of dir)
      (λ j i e y. subst
      (λ (z : ℕ). f (z, placed (get_or (chain_of dir) j 0) i (start_in (6 + 2 * word_at dir 0) (values_of (word_at dir 6) dir (chain_of dir)) j i) e)
      ≡ g (get_or (chain_of dir) z 0) (start_in (6 + 2 * word_at dir 0) (values_of (word_at dir 6) dir (chain_of dir)) z i) (record { segment = z; index = i; entry = cleaned e }))
      (sym (zero-add j))
      (h (get_or (chain_of dir) j 0) j i (start_in (6 + 2 * word_at dir 0) (values_of (word_at dir 6) dir (chain_of dir)) j i) e y))

-- the first of what is told
pub first-map : {X Y : Type 0} (f : X → Y) (xs : List X) → option_map f (first xs) ≡ first (map f xs)
first-map f [] = refl
first-map f (x ∷ xs) = refl
