-- Entries that are written as they are: an empty is zero but for status and length.
use Rattle.std.proofs.Common.{◌≡◌, ℕ, ◌+◌, Bool, true, false, cond, eqb, List, [], ◌∷◌, ◌++◌, map, take, drop, sym, refl, ap, ◌∙◌, inl, inr}
use Rattle.std.specs.List.{between, AllByRecursion}
use Rattle.std.proofs.ByRecursion.{All-append, All-take, All-drop}
use Rattle.std.proofs.lemmas.Bool.{cases_Bool, cond-true, cond-false}
use Rattle.volume.specs.declared.entry.Entry.{Entry}
use Rattle.directory.specs.Walks.{blocks_of}
use Rattle.segment.specs.Directories.{entries_at}
use Rattle.edits.specs.Entries.{is_empty, empty_of}
use Rattle.edits.specs.Directories.{place_entries}
use Rattle.edits.specs.Edits.{spliced, rest, run_start, run_end, emptied}
use Rattle.edits.specs.Values.{cleaned, values_of}

abbrev pub Clean : Entry → Type 0
Clean e = cleaned e ≡ e

pub clean_map : (es : List Entry) → AllByRecursion Clean es → map cleaned es ≡ es
clean_map [] a = refl
clean_map (e ∷ es) a = ap (λ z. z ∷ map cleaned es) a.0 ∙ ap (λ zs. e ∷ zs) (clean_map es a.1)

-- what is no empty
pub clean_other : (e : Entry) → is_empty e ≡ false → Clean e
clean_other e h = cond-false (is_empty e) (empty_of e.length) e h

pub clean_empty : (n : ℕ) → Clean (empty_of n)
clean_empty n = refl

cleaned_clean : (e : Entry) → Clean (cleaned e)
cleaned_clean e =
    elim (cases_Bool (is_empty e)) [
      | inl y ↦ let q = cond-true (is_empty e) (empty_of e.length) e y in ap cleaned q ∙ sym q
      | inr y ↦ let q = cond-false (is_empty e) (empty_of e.length) e y in ap cleaned q
    ]

cleaned_all : (es : List Entry) → AllByRecursion Clean (map cleaned es)
cleaned_all [] = tt
cleaned_all (e ∷ es) = (cleaned_clean e, cleaned_all es)

pub clean_values : (x : ℕ) (dir : List ℕ) (ks : List ℕ) (k : ℕ) → AllByRecursion Clean (place_entries (values_of x dir ks) k)
unfolding values_of place_entries
clean_values x dir [] k = tt
clean_values x dir (j ∷ ks) Prim.Native.Nat.zero = cleaned_all (entries_at x dir j)
clean_values x dir (j ∷ ks) (Prim.Native.Nat.suc k) = clean_values x dir ks k

pub clean_spliced : (i k : ℕ) (new es : List Entry) → AllByRecursion Clean new → AllByRecursion Clean es → AllByRecursion Clean (spliced i k new es)
unfolding spliced
clean_spliced i k new es n a =
    All-append Clean (take i es) (new ++ drop (i + k) es) (All-take Clean i es a) (All-append Clean new (drop (i + k) es) n (All-drop Clean (i + k) es a))

pub clean_rest : (n : ℕ) → AllByRecursion Clean (rest n)
clean_rest n = go (eqb n 0)
  where
    go : (b : Bool) → AllByRecursion Clean (cond b [] (empty_of n ∷ []))
    go true = tt
    go false = (refl, tt)

pub clean_emptied : (i : ℕ) (es : List Entry) → AllByRecursion Clean es → AllByRecursion Clean (emptied i es)
unfolding emptied
clean_emptied i es a =
    All-append Clean (take (run_start es i) es)
    (empty_of (blocks_of (between (run_start es i) (run_end es i) es)) ∷ drop (run_end es i) es)
    (All-take Clean (run_start es i) es a) (refl, All-drop Clean (run_end es i) es a)
