-- Rule 6: the entries of a segment, word by word.
use Rattle.std.proofs.Common.{◌≡◌, ℕ, zero, suc, ◌+◌, ◌-◌, ◌*◌, ◌≤◌, Bool, true, false, cond, eqb, List, [], ◌∷◌, length, get_or, drop, is_some, Some, None, Decides, Option, sym, refl, ap, ◌∙◌, subst, inl, inr, add-mul, one-mul, zero-mul, arith}
use Rattle.std.specs.Option.{option_map}
use Rattle.std.proofs.lemmas.List.{drop-drop, drop_all}
use Rattle.std.proofs.lemmas.Bool.{cond-true, cond-false, eq-eqb, ne_eqb, eqb-true, false≢true}
use Rattle.std.proofs.ByRecursion.{Decides-by_and}
use Rattle.codec.specs.Words.{word_at}
use Rattle.volume.specs.declared.entry.Entry.{Entry}
use Rattle.volume.specs.declared.entry.Status.{Status}
use Rattle.volume.specs.declared.entry.Status.TheVariants.{Tentative, Empty, Permanent, Protected}
use Rattle.volume.specs.Segments.{capacity_of}
use Rattle.volume.proofs.Encoding.{no_entry}
use Rattle.segment.specs.Entries.{status_of, entry_as}
use Rattle.segment.specs.Segments.{entry_start, before, entries_in, segment_entries}
use Rattle.segment.specs.Chains.{segment_at}
use Rattle.segment.proofs.Fields.{word_here}
use Rattle.segment.proofs.Walks.{segment_walked, segment_few, fields_at}
use Rattle.directory.specs.Rules.{every, lawful_at}
use Rattle.directory.proofs.Walking.{ended}
use Rattle.rulebook.specs.Entries.{StatusWord, EntriesAt, LawfulSegment, RuleSixSegments}

-- ---- the four statuses

status_named : (w : ℕ) (s : Status) → status_of w ≡ Some s → StatusWord w
status_named w s =
    go (eqb w 256) (eqb w 512) (eqb w 1024) (eqb w 33792) (eqb-true w 256) (eqb-true w 512) (eqb-true w 1024) (eqb-true w 33792)
  where
    go : (a b c d : Bool) → (a ≡ true → w ≡ 256) → (b ≡ true → w ≡ 512) → (c ≡ true → w ≡ 1024) → (d ≡ true → w ≡ 33792)
        → cond a (Some Tentative) (cond b (Some Empty) (cond c (Some Permanent) (cond d (Some Protected) None))) ≡ Some s → StatusWord w
    go true b c d p q r t e = inl (p refl)
    go false true c d p q r t e = inr (inl (q refl))
    go false false true d p q r t e = inr (inr (inl (r refl)))
    go false false false true p q r t e = inr (inr (inr (t refl)))
    go false false false false p q r t e = absurd (let z : ◌≡◌ {A = ℕ} 0 1 = cc in omega arith)

status_known : (w : ℕ) → StatusWord w → (s : Status) × (status_of w ≡ Some s)
status_known w (inl e) = (Tentative, ap status_of e)
status_known w (inr (inl e)) = (Empty, ap status_of e)
status_known w (inr (inr (inl e))) = (Permanent, ap status_of e)
status_known w (inr (inr (inr e))) = (Protected, ap status_of e)

not_end : (w : ℕ) → StatusWord w → w ≡ 2048 → ⊥
not_end w (inl e) z = omega arith
not_end w (inr (inl e)) z = omega arith
not_end w (inr (inr (inl e))) z = omega arith
not_end w (inr (inr (inr e))) z = omega arith

-- ---- one segment

-- the entries that are read are those that stand there
pub read_stand : (x : ℕ) (bs : List ℕ) (es : List Entry) → segment_entries x bs ≡ Some es → EntriesAt x bs 10 (length es)
read_stand x bs es h = (
  (λ i l.
      let f = fields_at x bs es h i l in
      subst StatusWord (word_here bs (entry_start x i)) (status_named (word_at (drop (entry_start x i) bs) 0) (get_or es i no_entry).status f.status)),
  sym (word_here bs (entry_start x (length es)))
      ∙ ended (capacity_of x - length es) x (drop (entry_start x (length es)) bs)
      (segment_walked x bs es h (length es) (omega arith) ∙ ap Some (drop_all (length es) es (omega arith))),
)

module _ (x : ℕ) (bs : List ℕ) where
  place_none : (at : ℕ) → at + 0 * (14 + x) ≡ at
  place_none at = omega (arith, zero-mul (14 + x))

  place_more : (at i : ℕ) → at + suc i * (14 + x) ≡ (at + (14 + x)) + i * (14 + x)
  place_more at i = omega (arith, add-mul i 1 (14 + x), one-mul (14 + x))

  -- an entry and those behind it
  rest : (at n : ℕ) → EntriesAt x bs at (suc n) → EntriesAt x bs (at + (14 + x)) n
  rest at n h = (
    (λ i l. subst (λ (z : ℕ). StatusWord (word_at bs z)) (place_more at i) (h.0 (suc i) (omega arith))),
    ap (word_at bs) (sym (place_more at n)) ∙ h.1,
  )

  first : (at n : ℕ) → EntriesAt x bs at (suc n) → StatusWord (word_at (drop at bs) 0)
  first at n h = subst StatusWord (ap (word_at bs) (place_none at) ∙ sym (word_here bs at)) (h.0 0 (omega arith))

  none_in : (n at : ℕ) → word_at (drop at bs) 0 ≡ 2048 → entries_in n x (drop at bs) ≡ Some []
  unfolding entries_in
  none_in zero at e = cond-true _ _ _ (eq-eqb _ _ e)
  none_in (suc n) at e = cond-true _ _ _ (eq-eqb _ _ e)

  -- the entries that stand there are read
  pub stand_read : (n m at : ℕ) → m ≤ n → EntriesAt x bs at m → (es : List Entry) × (entries_in n x (drop at bs) ≡ Some es) × (length es ≡ m)
  unfolding entries_in
  stand_read n zero at l h = ([], none_in n at (word_here bs at ∙ ap (word_at bs) (sym (place_none at)) ∙ h.1), refl)
  stand_read zero (suc m) at l h = absurd (omega arith)
  stand_read (suc n) (suc m) at l h =
      let w = first at m h in
      let s = status_known (word_at (drop at bs) 0) w in
      let r = stand_read n m (at + (14 + x)) (omega arith) (rest at m h) in
      let e : Entry = entry_as x (drop at bs) s.0 in (
        e ∷ r.0,
        cond-false _ _ _ (ne_eqb _ _ (not_end (word_at (drop at bs) 0) w))
            ∙ ap (λ (o : Option Status). before (option_map (entry_as x (drop at bs)) o) (entries_in n x (drop (14 + x) (drop at bs)))) s.1
            ∙ ap (λ (l : List ℕ). option_map (λ es. e ∷ es) (entries_in n x l)) (drop-drop (14 + x) at bs)
            ∙ ap (option_map (λ es. e ∷ es)) r.1,
        ap suc r.2,
      )

segment_decided : (x : ℕ) (bs : List ℕ) → Decides (is_some (segment_entries x bs)) (LawfulSegment x bs)
segment_decided x bs = (go (segment_entries x bs) refl, λ h. ap is_some (stand_read x bs (capacity_of x) h.0 10 h.1 h.2).1)
  where
    go : (o : Option (List Entry)) → segment_entries x bs ≡ o → is_some o ≡ true → LawfulSegment x bs
    go None e t = absurd (false≢true t)
    go (Some es) e t = (length es, segment_few x bs es e, read_stand x bs es e)

pub rule_six-segments : RuleSixSegments
rule_six-segments x dir =
    Decides-by_and (lawful_at x dir) (λ k. LawfulSegment x (segment_at dir k)) (every (lawful_at x dir))
    (λ k. segment_decided x (segment_at dir k)) refl (λ _ _. refl)
