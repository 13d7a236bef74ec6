-- Entries that are read have zeros behind their extra bytes.
use Rattle.std.proofs.Common.{◌≡◌, ℕ, ◌+◌, ◌-◌, ◌≤◌, List, [], ◌∷◌, ◌++◌, length, take, drop, replicate, Some, None, Option, sym, ap, ◌∙◌, subst, arith}
use Rattle.std.specs.List.{AllByRecursion}
use Rattle.std.specs.Option.{option_map}
use Rattle.std.proofs.lemmas.List.{append_assoc, length-append, length-replicate, length-take, take_at, replicate-append-replicate}
use Rattle.volume.specs.declared.entry.Status.{Status}
use Rattle.volume.specs.declared.entry.Entry.{Entry}
use Rattle.volume.specs.Entries.{empty_of}
use Rattle.segment.specs.Entries.{status_in, extra_of, entry_as, entry_of, LawfulEntry}
use Rattle.segment.specs.Segments.{entries_in}
use Rattle.segment.proofs.Walks.{front}

-- zeros up to 64, in two parts
in_parts : (x : ℕ) (bs : List ℕ) → length bs ≤ x → x ≤ 64 → extra_of bs ≡ (bs ++ replicate (x - length bs) 0) ++ replicate (64 - x) 0
unfolding extra_of
in_parts x bs l h =
    ap (λ (n : ℕ). bs ++ replicate n 0) (omega arith)
    ∙ ap (λ (z : List ℕ). bs ++ z) (sym (replicate-append-replicate (x - length bs) (64 - x) 0))
    ∙ sym (append_assoc bs (replicate (x - length bs) 0) (replicate (64 - x) 0))

by_front : (x : ℕ) (ex bs : List ℕ) → length bs ≡ x → ex ≡ bs ++ replicate (64 - x) 0 → ex ≡ extra_of (take x ex)
unfolding extra_of
by_front x ex bs l e =
    e ∙ ap (λ (n : ℕ). bs ++ replicate (64 - n) 0) (sym l) ∙ ap extra_of (sym (ap (take x) e ∙ take_at bs (replicate (64 - x) 0) x l))

-- zeros are taken for zeros
padded_again : (x : ℕ) (bs : List ℕ) → length bs ≤ x → x ≤ 64 → extra_of bs ≡ extra_of (take x (extra_of bs))
padded_again x bs l h =
    by_front x (extra_of bs) (bs ++ replicate (x - length bs) 0)
    (simp (length-append, length-replicate) (omega arith)) (in_parts x bs l h)

wide_enough : (x : ℕ) (bs : List ℕ) → x ≤ 64 → x ≤ length (extra_of bs)
unfolding extra_of
wide_enough x bs h = simp (length-append, length-replicate) (omega arith)

module _ (x : ℕ) (h : x ≤ 64) where
  entry_as-lawful : (bs : List ℕ) (s : Status) → LawfulEntry x (entry_as x bs s)
  unfolding entry_as
  entry_as-lawful bs s =
      record {
        wide = wide_enough x (take x (drop 14 bs)) h;
        padded = padded_again x (take x (drop 14 bs)) (omega (arith, length-take x (drop 14 bs))) h;
      }

  lawful_by : (bs : List ℕ) (o : Option Status) (e : Entry) → option_map (entry_as x bs) o ≡ Some e → LawfulEntry x e
  lawful_by bs None e p = absurd (let z : ◌≡◌ {A = ℕ} 0 1 = cc in omega arith)
  lawful_by bs (Some s) e p = let q : entry_as x bs s ≡ e = cc in subst (LawfulEntry x) q (entry_as-lawful bs s)

  pub lawful_entry : (bs : List ℕ) (e : Entry) → entry_of x bs ≡ Some e → LawfulEntry x e
  lawful_entry bs e p = lawful_by bs (status_in bs) e p

  pub lawful-entries : (n : ℕ) (bs : List ℕ) (es : List Entry) → entries_in n x bs ≡ Some es → AllByRecursion (LawfulEntry x) es
  lawful-entries n bs [] p = tt
  lawful-entries n bs (e ∷ es) p =
      let f = front n x bs e es p in
      (lawful_entry bs e f.first, lawful-entries (n - 1) (drop (14 + x) bs) es f.rest)

  pub empty_lawful : (n : ℕ) → LawfulEntry x (empty_of n)
  unfolding extra_of
  empty_lawful n = record { wide = wide_enough x [] h; padded = padded_again x [] (omega arith) h }
