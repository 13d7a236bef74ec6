-- One entry more among the empties that are kept, and how low they start.
use Rattle.std.proofs.Common.{◌≡◌, ℕ, ◌<◌, ◌≤◌, eqb, ltb, leb, List, [], ◌∷◌, IfSome, Some, None, Option, sym, refl, ap, ◌∙◌, subst}
use Rattle.std.proofs.lemmas.Bool.{lt-ltb, cond-true, cond_both}
use Rattle.runfile.specs.declared.field.Ask.{Ask}
use Rattle.runfile.specs.declared.field.Ask.TheVariants.{Whole, Half, Exact}
use Rattle.directory.specs.declared.placed.Placed.{Placed}
use Rattle.places.specs.declared.place.EntryPlace.{EntryPlace}
use Rattle.places.specs.declared.place.EmptyPlace.{EmptyPlace}
use Rattle.places.specs.declared.choose.Best.{Best}
use Rattle.places.specs.Searches.{is_empty, entry_told}
use Rattle.places.specs.Chosen.{first_fit, larger, second_of, with_empty, with_entry, none_yet, Low, best_after, giving, given_of, whole_of, half_of, half_or_second, half_from, decided}

pub best_more : (least : ℕ) (b a : Best) (p : ℕ) (e : Placed) {l r : List (ℕ × Placed)} → a ≡ with_entry least b (p, e) → l ≡ (p, e) ∷ r
    → best_after least a r ≡ best_after least b l
unfolding best_after
best_more least b a p e {l} {r} h q = ap (λ (z : Best). best_after least z r) h ∙ sym (ap (best_after least b) q)

pub best_none : (least : ℕ) (b : Best) (l : List (ℕ × Placed)) → l ≡ [] → best_after least b l ≡ b
unfolding best_after
best_none least b l q = ap (best_after least b) q

-- a larger one takes over, and a second largest of more than half
pub takes_over : (o : Option EntryPlace) (a e : EntryPlace) → o ≡ Some a → a.length < e.length → e ≡ larger o e
takes_over o a e h l =
    sym (ap (λ (z : Option EntryPlace). larger z e) h ∙ cond-true _ _ _ (lt-ltb a.length e.length l))

pub second_wins : (a b : EntryPlace) (o : Option EntryPlace) → o ≡ Some b → half_of a.length < b.length → giving b.length b ≡ half_or_second a o
second_wins a b o h l =
    sym (ap (half_or_second a) h ∙ cond-true _ _ _ (lt-ltb (half_of a.length) b.length l))

abbrev LowPlace : Option EntryPlace → Type 0
LowPlace o = IfSome o (λ e. e.start ≤ 200000000)

low_first : (least : ℕ) (o : Option EntryPlace) (e : EntryPlace) → LowPlace o → e.start ≤ 200000000 → LowPlace (first_fit least o e)
low_first least None e h l = cond_both (leb least e.length) (Some e) None LowPlace (λ _. l) (λ _. tt)
low_first least (Some a) e h l = h

low_larger : (o : Option EntryPlace) (e : EntryPlace) → LowPlace o → e.start ≤ 200000000 → (larger o e).start ≤ 200000000
low_larger None e h l = l
low_larger (Some a) e h l = cond_both (ltb a.length e.length) e a (λ x. x.start ≤ 200000000) (λ _. l) (λ _. h)

low_second : (o s : Option EntryPlace) (e : EntryPlace) → LowPlace o → LowPlace s → e.start ≤ 200000000 → LowPlace (second_of o s e)
low_second None s e h g l = tt
low_second (Some a) s e h g l =
    cond_both (ltb a.length e.length) (Some a) (Some (larger s e)) LowPlace (λ _. h) (λ _. low_larger s e g l)

pub low_more : (least : ℕ) (b a : Best) (p : ℕ) (e : Placed) → a ≡ with_entry least b (p, e) → Low b → e.start ≤ 200000000 → Low a
low_more least b a p e q h l =
    subst Low (sym q)
    (cond_both (is_empty e) (with_empty least b (entry_told (p, e))) b Low
    (λ _. (
      low_first least b.first (entry_told (p, e)) h.0 l,
      low_larger b.largest (entry_told (p, e)) h.1 l,
      low_second b.largest b.second (entry_told (p, e)) h.1 h.2 l,
    )) (λ _. h))

abbrev LowEmpty : Option EmptyPlace → Type 0
LowEmpty o = IfSome o (λ e. e.entry.start ≤ 200000000)

low_given : (n : ℕ) (o : Option EntryPlace) → LowPlace o → LowEmpty (given_of n o)
low_given n None h = tt
low_given n (Some a) h = h

low_whole : (o : Option EntryPlace) → LowPlace o → LowEmpty (whole_of o)
low_whole None h = tt
low_whole (Some a) h = cond_both (eqb a.length 0) None (Some (giving a.length a)) LowEmpty (λ _. tt) (λ _. h)

low_or_second : (a : EntryPlace) (o : Option EntryPlace) → a.start ≤ 200000000 → LowPlace o → (half_or_second a o).entry.start ≤ 200000000
low_or_second a None h g = h
low_or_second a (Some b) h g =
    cond_both (ltb (half_of a.length) b.length) (giving b.length b) (giving (half_of a.length) a) (λ x. x.entry.start ≤ 200000000) (λ _. g) (λ _. h)

low_half : (o s : Option EntryPlace) → LowPlace o → LowPlace s → LowEmpty (half_from o s)
low_half None s h g = tt
low_half (Some a) s h g =
    cond_both (eqb a.length 0) None (Some (half_or_second a s)) LowEmpty (λ _. tt) (λ _. low_or_second a s h g)

pub low_decided : (ask : Ask) (b : Best) → Low b → LowEmpty (decided ask b)
low_decided Whole b h = low_whole b.largest h.1
low_decided Half b h = low_half b.largest b.second h.1 h.2
low_decided (Exact n) b h = low_given n b.first h.0

-- nothing is kept at first
pub none_is : (b : Best) → (b.first ≡ None) × ((b.largest ≡ None) × (b.second ≡ None)) → b ≡ none_yet
none_is b h = go b.first b.largest b.second h.0 h.1.0 h.1.1
  where
    go : (x y z : Option EntryPlace) → x ≡ None → y ≡ None → z ≡ None → ◌≡◌ {A = Best} (record { first = x; largest = y; second = z }) none_yet
    go x y z p q r = rw (p, q, r) refl
