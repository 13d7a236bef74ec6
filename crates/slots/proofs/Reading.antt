-- The entries of a segment, decoded one after another.
use Rattle.std.proofs.Common.{◌≡◌, ℕ, ◌+◌, ◌-◌, ◌<◌, ◌≤◌, ◌⊎◌, List, [], ◌∷◌, ◌++◌, length, get_or, take, drop, set, Some, None, Option, sym, ap, ◌∙◌, inl, inr, arith}
use Rattle.std.specs.Option.{option_map}
use Rattle.std.proofs.lemmas.List.{drop_all, take_more, take_more_set, get_or-map, length-map, take_all}
use Rattle.std.proofs.lemmas.Bool.{cases_lt}
use Rattle.codec.specs.Words.{word_at}
use Rattle.volume.specs.declared.entry.Entry.{Entry}
use Rattle.volume.specs.Segments.{capacity_of}
use Rattle.volume.proofs.Encoding.{no_entry}
use Rattle.segment.specs.Entries.{entry_of, entry_as, status_of}
use Rattle.segment.specs.Segments.{entry_start, segment_entries}
use Rattle.segment.specs.Chains.{segment_at}
use Rattle.segment.specs.Directories.{entries_at}
use Rattle.segment.proofs.Walks.{segment_walked, segment_few, entry_at}
use Rattle.directory.specs.Walks.{Readable}
use Rattle.directory.proofs.Walking.{ended, entries_read}
use Rattle.edits.specs.Values.{cleaned, value_at}

-- a segment can hold 72 entries at most
pub most_slots : (x : ℕ) → capacity_of x ≤ 72
most_slots x = omega arith

-- no entry begins with the word that ends a segment
end_none : (x : ℕ) (bs : List ℕ) → word_at bs 0 ≡ 2048 → entry_of x bs ≡ None
end_none x bs h = ap (λ (w : ℕ). option_map (entry_as x bs) (status_of w)) h

-- the entry at a place of some bytes is entry i of segment k
pub entry_here : (x : ℕ) (dir : List ℕ) (k i at : ℕ) (bs : List ℕ) {o : Option Entry} → o ≡ entry_of x (drop at bs) → bs ≡ segment_at dir k
    → at ≡ entry_start x i → o ≡ entry_of x (drop (entry_start x i) (segment_at dir k))
entry_here x dir k i at bs h p q =
    h ∙ ap (λ (z : List ℕ). entry_of x (drop at z)) p ∙ ap (λ (n : ℕ). entry_of x (drop n (segment_at dir k))) q

module _ (x : ℕ) (dir : List ℕ) (k : ℕ) (r : Readable x dir k) where
  read : segment_entries x (segment_at dir k) ≡ Some (entries_at x dir k)
  read = entries_read x dir k r.2

  -- a segment can hold them all
  pub few : length (value_at x dir k) ≤ capacity_of x
  few = omega (arith, length-map (entries_at x dir k) cleaned, segment_few x (segment_at dir k) (entries_at x dir k) read)

  module _ (i : ℕ) (l : i ≤ length (value_at x dir k)) where
    inside : i ≤ length (entries_at x dir k)
    inside = omega (arith, length-map (entries_at x dir k) cleaned)

    -- an entry is found before the end only
    pub goes_on : (e : Entry) → Some e ≡ entry_of x (drop (entry_start x i) (segment_at dir k)) → i < length (entries_at x dir k)
    goes_on e h = go (cases_lt i (length (entries_at x dir k)))
      where
        go : (i < length (entries_at x dir k)) ⊎ (length (entries_at x dir k) ≤ i) → i < length (entries_at x dir k)
        go (inl m) = m
        go (inr m) =
            let bs : List ℕ = drop (entry_start x i) (segment_at dir k) in
            let e₀ : Some e ≡ None
            = h ∙ end_none x bs (ended (capacity_of x - i) x bs
            (segment_walked x (segment_at dir k) (entries_at x dir k) read i inside ∙ ap Some (drop_all i (entries_at x dir k) m))) in
            absurd (cc)

    -- one more entry is read
    pub read_more : (e : Entry) (ys : List Entry) → Some e ≡ entry_of x (drop (entry_start x i) (segment_at dir k)) → i < length ys
        → take i ys ≡ take i (value_at x dir k)
        → (i + 1 ≤ length (value_at x dir k)) × (take (i + 1) (set ys i (cleaned e)) ≡ take (i + 1) (value_at x dir k))
    read_more e ys h m q =
        let g = goes_on e h in
        let f : Some e ≡ Some (get_or (entries_at x dir k) i no_entry) = h ∙ entry_at x (segment_at dir k) (entries_at x dir k) read i g in
        let f₁ : e ≡ get_or (entries_at x dir k) i no_entry = cc in
        let v : i < length (value_at x dir k) = omega (arith, length-map (entries_at x dir k) cleaned) in
        let c : cleaned e ≡ get_or (value_at x dir k) i no_entry
        = ap cleaned f₁ ∙ sym (get_or-map cleaned (entries_at x dir k) i no_entry no_entry g) in (
          omega arith,
          take_more_set ys i (cleaned e) m ∙ ap (λ (z : List Entry). z ++ cleaned e ∷ []) q
              ∙ ap (λ (z : Entry). take i (value_at x dir k) ++ z ∷ []) c
              ∙ sym (take_more (value_at x dir k) i no_entry v),
        )

    -- where none is found all have been read
    pub read_end : (ys : List Entry) → None ≡ entry_of x (drop (entry_start x i) (segment_at dir k)) → take i ys ≡ take i (value_at x dir k)
        → take i ys ≡ value_at x dir k
    read_end ys h q = q ∙ take_all i (value_at x dir k) (go (cases_lt i (length (entries_at x dir k))))
      where
        go : (i < length (entries_at x dir k)) ⊎ (length (entries_at x dir k) ≤ i) → length (value_at x dir k) ≤ i
        go (inr m) = omega (arith, length-map (entries_at x dir k) cleaned)
        go (inl m) =
            let f : ◌≡◌ {A = Option Entry} None (Some (get_or (entries_at x dir k) i no_entry))
            = h ∙ entry_at x (segment_at dir k) (entries_at x dir k) read i m in
            absurd (cc)

    -- a full segment has been read
    pub read_full : (ys : List Entry) → i ≡ capacity_of x → take i ys ≡ take i (value_at x dir k) → take i ys ≡ value_at x dir k
    read_full ys h q = q ∙ take_all i (value_at x dir k) (omega (arith, few))
