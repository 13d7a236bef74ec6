-- Entries that are decoded, edited and then written have zeros behind their extra bytes.
use Rattle.std.proofs.Common.{ℕ, ◌+◌, ◌≤◌, Bool, true, false, cond, eqb, List, [], ◌∷◌, ◌++◌, take, drop}
use Rattle.std.specs.List.{between, AllByRecursion}
use Rattle.std.proofs.ByRecursion.{All-append, All-take, All-drop, All-map, All-weaker}
use Rattle.codec.specs.declared.name.Name.{Name}
use Rattle.volume.specs.declared.entry.Status.{Status}
use Rattle.volume.specs.declared.entry.Entry.{Entry}
use Rattle.segment.specs.Entries.{LawfulEntry}
use Rattle.segment.specs.Chains.{segment_at}
use Rattle.segment.specs.Directories.{entries_at}
use Rattle.segment.proofs.RoundTrip.{read_lawful}
pub use Rattle.segment.proofs.Lawful.{empty_lawful}
use Rattle.directory.specs.Walks.{Readable}
use Rattle.directory.proofs.Walking.{entries_read}
use Rattle.edits.specs.Entries.{is_empty, empty_of, tentative_of, lengthened, marked, renamed, blocks_of}
use Rattle.edits.specs.Values.{cleaned, value_at}
use Rattle.edits.specs.Edits.{spliced, rest, run_start, run_end, emptied}

module _ (x : ℕ) where
  pub spliced-lawful : (i k : ℕ) (new es : List Entry) → AllByRecursion (LawfulEntry x) new → AllByRecursion (LawfulEntry x) es → AllByRecursion (LawfulEntry x) (spliced i k new es)
  unfolding spliced
  spliced-lawful i k new es n h =
      All-append (LawfulEntry x) (take i es) (new ++ drop (i + k) es) (All-take (LawfulEntry x) i es h)
      (All-append (LawfulEntry x) new (drop (i + k) es) n (All-drop (LawfulEntry x) (i + k) es h))

  -- another length, status or name
  pub lengthened-lawful : (n : ℕ) (e : Entry) → LawfulEntry x e → LawfulEntry x (lengthened n e)
  lengthened-lawful n e l = record { wide = l.wide; padded = l.padded }

  pub marked-lawful : (s : Status) (e : Entry) → LawfulEntry x e → LawfulEntry x (marked s e)
  marked-lawful s e l = record { wide = l.wide; padded = l.padded }

  pub renamed-lawful : (n : Name) (e : Entry) → LawfulEntry x e → LawfulEntry x (renamed n e)
  renamed-lawful n e l = record { wide = l.wide; padded = l.padded }

  module _ (h : x ≤ 64) where
    -- the entry of a new output
    pub tentative_lawful : (n : Name) (date given : ℕ) → LawfulEntry x (tentative_of n date given)
    tentative_lawful n date given = let l = empty_lawful x h given in record { wide = l.wide; padded = l.padded }

    pub rest-lawful : (n : ℕ) → AllByRecursion (LawfulEntry x) (rest n)
    rest-lawful n = go (eqb n 0)
      where
        go : (b : Bool) → AllByRecursion (LawfulEntry x) (cond b [] (empty_of n ∷ []))
        go true = tt
        go false = (empty_lawful x h n, tt)

    pub cleaned-lawful : (e : Entry) → LawfulEntry x e → LawfulEntry x (cleaned e)
    cleaned-lawful e l = go (is_empty e)
      where
        go : (b : Bool) → LawfulEntry x (cond b (empty_of e.length) e)
        go true = empty_lawful x h e.length
        go false = l

    -- what is decoded
    pub lawful_slots : (dir : List ℕ) (k : ℕ) → Readable x dir k → AllByRecursion (LawfulEntry x) (value_at x dir k)
    lawful_slots dir k r =
        All-map (LawfulEntry x) cleaned (entries_at x dir k)
        (All-weaker (LawfulEntry x) (λ (e : Entry). LawfulEntry x (cleaned e)) cleaned-lawful (entries_at x dir k)
        (read_lawful x (segment_at dir k) (entries_at x dir k) h (entries_read x dir k r.2)).1)

    -- and has an entry made empty
    pub emptied-lawful : (i : ℕ) (es : List Entry) → AllByRecursion (LawfulEntry x) es → AllByRecursion (LawfulEntry x) (emptied i es)
    unfolding emptied
    emptied-lawful i es a =
        All-append (LawfulEntry x) (take (run_start es i) es)
        (empty_of (blocks_of (between (run_start es i) (run_end es i) es)) ∷ drop (run_end es i) es)
        (All-take (LawfulEntry x) (run_start es i) es a)
        (empty_lawful x h (blocks_of (between (run_start es i) (run_end es i) es)), All-drop (LawfulEntry x) (run_end es i) es a)
