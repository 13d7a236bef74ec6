-- The entries of a segment, counted.
use Rattle.std.proofs.Common.{◌≡◌, ℕ, ◌+◌, ◌-◌, ◌<◌, List, ◌∷◌, length, drop, Some, None, Option, sym, refl, ap, ◌∙◌, add-zero, add-mul, one-mul, arith}
use Rattle.std.specs.Option.{option_map}
use Rattle.std.proofs.lemmas.List.{drop-drop}
use Rattle.codec.specs.Words.{word_at}
use Rattle.volume.specs.declared.entry.Status.{Status}
use Rattle.volume.specs.declared.entry.Entry.{Entry}
use Rattle.segment.specs.Entries.{entry_as, status_in}
use Rattle.segment.specs.Segments.{entry_start, entries_in}
use Rattle.segment.proofs.Fields.{word_here}
use Rattle.segment.proofs.Walks.{entries_end, entries-full, entries_bad, entries_more}

module _ (bs : List ℕ) (x n : ℕ) where
  -- i entries have been counted
  abbrev pub Counted : ℕ → Type 0
  Counted i =
      option_map (λ es. i + length es) (entries_in (n - i) x (drop (entry_start x i) bs)) ≡ option_map length (entries_in n x (drop 10 bs))

  one_more : (i : ℕ) (e : Entry) (r : Option (List Entry))
      → option_map (λ es. i + length es) (option_map (λ es. e ∷ es) r) ≡ option_map (λ es. i + 1 + length es) r
  one_more i e None = refl
  one_more i e (Some es) = ap Some (omega arith)

  start_more : (i : ℕ) → entry_start x i + (14 + x) ≡ entry_start x (i + 1)
  start_more i = omega (arith, add-mul i 1 (14 + x), one-mul (14 + x))

  -- what is left, by what the bytes at the next place are
  left : (i at : ℕ) {r : Option (List Entry)} → at ≡ entry_start x i → entries_in (n - i) x (drop at bs) ≡ r → Counted i
      → option_map (λ es. i + length es) r ≡ option_map length (entries_in n x (drop 10 bs))
  left i at p e c = ap (option_map (λ es. i + length es)) (sym e ∙ ap (λ (k : ℕ). entries_in (n - i) x (drop k bs)) p) ∙ c

  pub counted_end : (i at : ℕ) → at ≡ entry_start x i → word_at bs at ≡ 2048 → Counted i → Some i ≡ option_map length (entries_in n x (drop 10 bs))
  counted_end i at p h c =
      ap Some (sym (add-zero i)) ∙ left i at p (entries_end (n - i) x (drop at bs) (word_here bs at ∙ h)) c

  module _ (i at : ℕ) (p : at ≡ entry_start x i) (h : word_at bs at ≡ 2048 → ⊥) where
    goes_on : word_at (drop at bs) 0 ≡ 2048 → ⊥
    goes_on z = h (sym (word_here bs at) ∙ z)

    pub counted_full : i ≡ n → Counted i → None ≡ option_map length (entries_in n x (drop 10 bs))
    counted_full l c =
        left i at p (ap (λ (k : ℕ). entries_in k x (drop at bs)) (omega arith) ∙ entries-full x (drop at bs) goes_on) c

    pub counted_bad : None ≡ status_in (drop at bs) → Counted i → None ≡ option_map length (entries_in n x (drop 10 bs))
    counted_bad e c = left i at p (entries_bad (n - i) x (drop at bs) goes_on (ap (option_map (entry_as x (drop at bs))) e)) c

    pub counted_more : (s : Status) → i < n → Some s ≡ status_in (drop at bs) → Counted i → Counted (i + 1)
    counted_more s l e c =
        let f : Entry = entry_as x (drop at bs) s in
        let m : n - i - 1 ≡ n - (i + 1) = omega arith in
        let past : drop (14 + x) (drop at bs) ≡ drop (entry_start x (i + 1)) bs
        = drop-drop (14 + x) at bs ∙ ap (λ (k : ℕ). drop (k + (14 + x)) bs) p ∙ ap (λ (k : ℕ). drop k bs) (start_more i) in
        let one : entries_in (n - i) x (drop at bs) ≡ option_map (λ es. f ∷ es) (entries_in (n - (i + 1)) x (drop (entry_start x (i + 1)) bs))
        = entries_more (n - i) x (drop at bs) (Some f) goes_on (omega arith) (ap (option_map (entry_as x (drop at bs))) e) ∙ rw (m, past) in
        sym (one_more i f _) ∙ left i at p one c
