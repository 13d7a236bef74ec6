-- A segment that is written again is that of the changed directory.
use Rattle.std.proofs.Common.{◌≡◌, ℕ, zero, suc, ◌+◌, ◌-◌, ◌*◌, ◌<◌, ◌≤◌, List, [], ◌∷◌, length, get_or, sym, refl, ap, ◌∙◌, subst, arith}
use Rattle.std.proofs.lemmas.List.{length-drop}
use Rattle.codec.specs.Words.{word_at, written}
use Rattle.volume.specs.declared.entry.Entry.{Entry}
use Rattle.volume.specs.declared.segment.Header.{Header}
use Rattle.volume.specs.Segments.{segment_bytes}
use Rattle.segment.specs.Directories.{Segment, Directory, flat, chain_of}
use Rattle.directory.specs.Walks.{blocks_of, Readable}
use Rattle.edits.specs.Directories.{highest, first_block, place_entries, Shaped, Lawful}
use Rattle.edits.specs.Edits.{altered, holding}
use Rattle.edits.specs.Laws.{Stands}
use Rattle.edits.specs.Laid.{laid_from, laid}
use Rattle.edits.specs.Values.{value_at, values_of, value_of}
use Rattle.edits.proofs.Counts.{blocks_append}
use Rattle.edits.proofs.Chained.{altered_chain}
use Rattle.edits.proofs.Places.{stands_inside}
use Rattle.carry.specs.Carries.{Member, Carries, header_of, image, imaged}
use Rattle.carry.specs.Writes.{no_segment, at_places, Suits}
use Rattle.carry.proofs.Altered.{here, edited, written_one, entries-here, length-laid}
use Rattle.slots.specs.Slots.{header_at}
use Rattle.changes.specs.Segments.{entries_in, EntryIn, with_entries}

-- the number of a segment of the chain
pub number_here : (x : ℕ) (dir : List ℕ) (at k : ℕ) (ks : List ℕ) → k < length ks → (here k (laid_from at (values_of x dir ks))).number ≡ get_or ks k 0
unfolding laid_from values_of
number_here x dir at k [] h = absurd (omega arith)
number_here x dir at zero (j ∷ ks) h = refl
number_here x dir at (suc k) (j ∷ ks) h = number_here x dir (at + blocks_of (value_at x dir j)) k ks (omega arith)

pub length_values : (x : ℕ) (dir : List ℕ) (ks : List ℕ) → length (values_of x dir ks) ≡ length ks
unfolding values_of
length_values x dir [] = refl
length_values x dir (k ∷ ks) = ap suc (length_values x dir ks)

pub number_there : (dir : List ℕ) (k : ℕ) → k < length (value_of dir).segments → (here k (laid (value_of dir))).number ≡ get_or (chain_of dir) k 0
unfolding value_of
number_there dir k h = number_here (word_at dir 6) dir (6 + 2 * word_at dir 0) k (chain_of dir) (omega (arith, h, length_values (word_at dir 6) dir (chain_of dir)))

header_same : (total next highest extra start total' next' highest' extra' start' : ℕ) → total ≡ total' → next ≡ next' → highest ≡ highest' → extra ≡ extra' → start ≡ start'
    → ◌≡◌ {A = Header} (record { total = total; next = next; highest = highest; extra = extra; start = start })
    (record { total = total'; next = next'; highest = highest'; extra = extra'; start = start' })
header_same total next highest extra start total' next' highest' extra' start' a b c d e = cc

module _ (dir : List ℕ) (d : Directory) (c : Carries dir d) (k : ℕ) (h : k < length d.segments) where
  was : Member d.extra dir (here k (laid d))
  was = Rattle.std.proofs.ByRecursion.All-get_or (Member d.extra dir) (laid d) k no_segment (omega (arith, h, length-laid (first_block d) d.segments)) c.members

  -- its entries, as they are decoded
  pub decoded_there : entries_in dir (here k (laid d)).number ≡ place_entries d.segments k
  decoded_there =
      ap (λ (x : ℕ). value_at x dir (here k (laid d)).number) c.extra
      ∙ (was.entries ∙ entries-here (first_block d) k d.segments h)

  pub readable_there : Readable (word_at dir 6) dir (here k (laid d)).number
  readable_there = subst (λ (x : ℕ). Readable x dir (here k (laid d)).number) (sym c.extra) (was.some, was.inside, was.readable)

  -- with other entries
  module _ (f : List Entry → List Entry) (v : ℕ) (s : Shaped v d) (u : Suits d.extra (place_entries d.segments k) (f (place_entries d.segments k))) where
    abbrev new : Directory
    new = holding d (altered k f d.segments)

    same_header : header_at dir (here k (laid d)).number ≡ header_of (holding d (altered k f d.segments)) (edited f (here k (laid d)))
    same_header =
        header_same _ _ _ _ _ _ _ _ _ _ c.total was.next (c.used ∙ sym (altered_chain f k d.segments).long) c.extra was.start

    pub with_entries_is : with_entries dir (here k (laid d)).number f
        ≡ imaged dir (holding d (altered k f d.segments)) (at_places (laid (holding d (altered k f d.segments))) (k ∷ []))
    unfolding with_entries imaged image
    with_entries_is =
        ap (λ (z : Header). written dir (1024 * ((here k (laid d)).number - 1)) (segment_bytes z (f (entries_in dir (here k (laid d)).number)))) same_header
        ∙ (ap (λ (es : List Entry). written dir (1024 * ((here k (laid d)).number - 1)) (segment_bytes (header_of new (edited f (here k (laid d)))) (f es)))
        (decoded_there ∙ sym (entries-here (first_block d) k d.segments h))
        ∙ sym (ap (imaged dir new) (written_one dir d k f v c s h u)))

-- the blocks of the entries of one segment
blocks_place : (ss : List Segment) (k : ℕ) → blocks_of (place_entries ss k) ≤ blocks_of (flat ss)
unfolding place_entries flat blocks_of
blocks_place [] k = omega arith
blocks_place (s ∷ ss) zero = omega (arith, blocks_append s.entries (flat ss))
blocks_place (s ∷ ss) (suc k) = omega (arith, blocks_append s.entries (flat ss), blocks_place ss k)

-- an entry of a sound directory
pub entry_in : (dir : List ℕ) (d : Directory) (n v : ℕ) → Carries dir d → Lawful n v d → v ≤ 65535
    → (k i : ℕ) (e : Entry) → Stands d.segments k i e → EntryIn dir (here k (laid d)).number i
entry_in dir d n v c l w k i e s =
    let h = stands_inside d.segments k i e s in
    let t = decoded_there dir d c k h in
    record {
      readable = readable_there dir d c k h;
      small = omega (arith, c.extra, l.shaped.small);
      inside = omega (arith, ap length t, ap length s, length-drop i (place_entries d.segments k));
      blocks = omega (arith, ap blocks_of t, blocks_place d.segments k, l.filled, w);
    }
