-- The fields of an entry.
use Rattle.std.proofs.Common.{◌≡◌, ℕ, ◌+◌, ◌-◌, List, take, drop, Some, None, Option, sym, refl, ap, ◌∙◌, add-zero, add_assoc, arith}
use Rattle.std.specs.Option.{option_map}
use Rattle.std.proofs.lemmas.List.{get_or-drop, drop-drop}
use Rattle.codec.specs.declared.name.Name.{Name}
use Rattle.codec.specs.Words.{word_at}
use Rattle.volume.specs.declared.entry.Status.{Status}
use Rattle.volume.specs.declared.entry.Entry.{Entry}
use Rattle.segment.specs.Entries.{status_in, name_in, length_in, job_in, date_in, extra_of, entry_as, entry_of}

-- a word of what is behind a place
pub word_past : (bs : List ℕ) (at i : ℕ) → word_at (drop at bs) i ≡ word_at bs (at + i)
word_past bs at i = simp (get_or-drop, add_assoc)

pub word_here : (bs : List ℕ) (at : ℕ) → word_at (drop at bs) 0 ≡ word_at bs at
word_here bs at = word_past bs at 0 ∙ ap (word_at bs) (add-zero at)

-- the extra bytes as the checker reads them
pub extra_is : (bs : List ℕ) (at x : ℕ) → take (at + 14 + x - (at + 14)) (drop (at + 14) bs) ≡ take x (drop 14 (drop at bs))
extra_is bs at x = ap (λ (n : ℕ). take n (drop (at + 14) bs)) (omega arith) ∙ ap (take x) (sym (drop-drop 14 at bs))

pub entry_is : (x : ℕ) (bs : List ℕ) {s : Status} {n : Name} {l j d : ℕ} {ex : List ℕ} → Some s ≡ status_in bs → n ≡ name_in bs → l ≡ length_in bs
    → j ≡ job_in bs → d ≡ date_in bs → ex ≡ extra_of (take x (drop 14 bs))
    → ◌≡◌ {A = Option Entry} (Some (record { status = s; name = n; length = l; job = j; date = d; extra = ex })) (entry_of x bs)
unfolding entry_as
entry_is x bs e p q r t u = rw (← e, p, q, r, t, u)

-- what the entry at the front of some bytes has, by its words
pub record Fields (bs : List ℕ) (e : Entry) : Type 0 where
  pub status : status_in bs ≡ Some e.status
  pub name : name_in bs ≡ e.name
  pub length : length_in bs ≡ e.length
  pub job : job_in bs ≡ e.job
  pub date : date_in bs ≡ e.date

fields_by : (x : ℕ) (bs : List ℕ) (o : Option Status) (e : Entry) → status_in bs ≡ o → option_map (entry_as x bs) o ≡ Some e → Fields bs e
unfolding entry_as
fields_by x bs None e s h = absurd (let z : ◌≡◌ {A = ℕ} 0 1 = cc in omega arith)
fields_by x bs (Some s) e p h =
    let q : entry_as x bs s ≡ e = cc in
    record {
      status = p ∙ ap (λ (z : Entry). Some z.status) q;
      name = ap (λ (z : Entry). z.name) q;
      length = ap (λ (z : Entry). z.length) q;
      job = ap (λ (z : Entry). z.job) q;
      date = ap (λ (z : Entry). z.date) q;
    }

pub fields : (x : ℕ) (bs : List ℕ) (e : Entry) → entry_of x bs ≡ Some e → Fields bs e
fields x bs e h = fields_by x bs (status_in bs) e refl h
