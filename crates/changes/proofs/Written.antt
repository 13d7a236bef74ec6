-- A segment decoded, changed and written again.
use Rattle.std.proofs.Common.{◌≡◌, ℕ, ◌-◌, ◌*◌, ◌<◌, List, length, get_or, sym, ap, ◌∙◌, arith}
use Rattle.std.proofs.lemmas.List.{get_or-take, length-take}
use Rattle.codec.specs.Words.{written}
use Rattle.volume.specs.declared.entry.Entry.{Entry}
use Rattle.volume.specs.declared.segment.Header.{Header}
use Rattle.volume.specs.Segments.{segment_bytes}
use Rattle.volume.proofs.Encoding.{no_entry}
use Rattle.edits.specs.Values.{value_at}
use Rattle.slots.specs.declared.entries.Slots.{Slots}
use Rattle.slots.specs.Slots.{slot_entries, header_at}
use Rattle.changes.specs.Segments.{entries_in, entry_in, with_entries}

module _ (dir : List ℕ) (k : ℕ) where
  module _ (h : Header) (e : h ≡ header_at dir k) where
    pub decoded : (es : List Entry) → es ≡ value_at h.extra dir k → es ≡ entries_in dir k
    decoded es v = v ∙ ap (λ (z : Header). value_at z.extra dir k) e

    pub put_again : (es ys : List Entry) (after : List ℕ) → ys ≡ es → after ≡ written dir (1024 * (k - 1)) (segment_bytes h ys)
        → after ≡ with_entries dir k (λ _. es)
    unfolding with_entries
    put_again es ys after p q =
        q
        ∙ ap (λ (z : Header). written dir (1024 * (k - 1)) (segment_bytes z ys)) e
        ∙ ap (λ (z : List Entry). written dir (1024 * (k - 1)) (segment_bytes (header_at dir k) z)) p

  -- entries that are a function of those that were decoded
  pub changed_by : (f : List Entry → List Entry) (es : List Entry) (after : List ℕ) → es ≡ f (entries_in dir k) → after ≡ with_entries dir k (λ _. es)
      → after ≡ with_entries dir k f
  unfolding with_entries
  changed_by f es after p q = q ∙ ap (λ (z : List Entry). written dir (1024 * (k - 1)) (segment_bytes (header_at dir k) z)) p

  -- one of the decoded entries
  module _ (s : Slots) (q : slot_entries s ≡ entries_in dir k) (i : ℕ) (h : i < length (entries_in dir k)) where
    counted : i < s.count
    counted = omega (arith, h, ap length q, length-take s.count s.entries)

    pub entry_same : get_or s.entries i no_entry ≡ entry_in dir k i
    entry_same = sym (get_or-take s.count s.entries i no_entry counted) ∙ ap (λ (es : List Entry). get_or es i no_entry) q
