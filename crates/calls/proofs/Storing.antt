-- One changed segment, written to the level.
use Rattle.std.proofs.Common.{◌≡◌, ℕ, ◌+◌, ◌*◌, ◌<◌, ◌≤◌, List, [], ◌∷◌, length, get_or, Option, sym, refl, ap, ◌∙◌, inl, arith}
use Rattle.device.specs.Blocks.{Block}
use Rattle.volume.specs.declared.entry.Entry.{Entry}
use Rattle.volume.specs.Transfers.{overwritten, halves, AllGood}
use Rattle.segment.specs.Chains.{segment_at}
use Rattle.segment.specs.Directories.{Directory, chain_of}
use Rattle.directory.specs.declared.pending.Pending.{Pending}
use Rattle.edits.specs.Directories.{first_block, place_entries}
use Rattle.edits.specs.Edits.{altered, holding}
use Rattle.edits.specs.Laid.{laid}
use Rattle.edits.specs.Values.{value_of}
use Rattle.carry.specs.Carries.{Member, image, imaged}
use Rattle.carry.specs.Writes.{no_segment, at_places, Suits}
use Rattle.carry.proofs.Writes.{imaged-here}
use Rattle.carry.proofs.Altered.{here, edited, written_one, fits, length-laid}
use Rattle.changes.specs.Segments.{with_entries}
use Rattle.changes.proofs.Imaged.{with_entries_is, number_there}
use Rattle.store.specs.Stores.{rewritten}
use Rattle.calls.specs.Loaded.{Loaded}
use Rattle.calls.specs.Plans.{changed_blocks}
use Rattle.calls.proofs.Loading.{long, carries, lawful}

module _ (bs : List Block) (o : Option Pending) (dir : List ℕ) (l : Loaded bs o dir) (k : ℕ) (h : k < length (value_of dir).segments) where
  abbrev d : Directory
  d = value_of dir

  was : Member (value_of dir).extra dir (here k (laid (value_of dir)))
  was = Rattle.std.proofs.ByRecursion.All-get_or (Member (value_of dir).extra dir) (laid (value_of dir)) k no_segment (omega (arith, h, length-laid (first_block (value_of dir)) (value_of dir).segments)) (carries bs o dir l).members

  -- the number of the segment
  pub number : (n : ℕ) → n ≡ get_or (chain_of dir) k 0 → n ≡ (here k (laid (value_of dir))).number
  number n e = e ∙ sym (number_there dir k h)

  pub in_range : (n : ℕ) → n ≡ get_or (chain_of dir) k 0 → (1 ≤ n) × (n ≤ l.total)
  in_range n e =
      let q = number n e in
      (omega (arith, q, was.some), omega (arith, q, was.inside, long bs o dir l))

  pub good_there : (n : ℕ) → n ≡ get_or (chain_of dir) k 0 → AllGood bs (4 + 2 * n) (6 + 2 * n)
  good_there n e b p q = let r = in_range n e in l.good b (omega (arith, r.0)) (omega (arith, r.1))

  module _ (f : List Entry → List Entry) (u : Suits (value_of dir).extra (place_entries (value_of dir).segments k) (f (place_entries (value_of dir).segments k))) where
    abbrev new : Directory
    new = holding (value_of dir) (altered k f (value_of dir).segments)

    one : at_places (laid (holding (value_of dir) (altered k f (value_of dir).segments))) (k ∷ []) ≡ edited f (here k (laid (value_of dir))) ∷ []
    one = written_one dir d k f _ (carries bs o dir l) (lawful bs o dir l).shaped h u

    pub image_there : (n : ℕ) (after : List ℕ) → n ≡ get_or (chain_of dir) k 0 → after ≡ with_entries dir n f
        → after ≡ imaged dir (holding (value_of dir) (altered k f (value_of dir).segments)) (at_places (laid (holding (value_of dir) (altered k f (value_of dir).segments))) (k ∷ []))
    image_there n after e p =
        p ∙ (ap (λ (z : ℕ). with_entries dir z f) (number n e) ∙ with_entries_is dir d (carries bs o dir l) k h f _ (lawful bs o dir l).shaped u)

    segment_there : (n : ℕ) (after : List ℕ) → n ≡ get_or (chain_of dir) k 0 → after ≡ with_entries dir n f
        → segment_at after n ≡ image (holding (value_of dir) (altered k f (value_of dir).segments)) (edited f (here k (laid (value_of dir))))
    segment_there n after e p =
        ap (λ (z : List ℕ). segment_at z n) (image_there n after e p ∙ ap (imaged dir new) one)
        ∙ (ap (segment_at (imaged dir new (edited f (here k (laid d)) ∷ []))) (number n e)
        ∙ imaged-here new dir (edited f (here k (laid d)) ∷ []) (fits dir d k f _ (carries bs o dir l) (lawful bs o dir l).shaped h u, tt) (tt, tt) (edited f (here k (laid d))) (inl refl))

    -- the blocks are those of the change
    pub stored_one : (n : ℕ) (after : List ℕ) → n ≡ get_or (chain_of dir) k 0 → after ≡ with_entries dir n f
        → overwritten bs (4 + 2 * n) (halves (segment_at after n))
        ≡ changed_blocks bs (record { directory = holding (value_of dir) (altered k f (value_of dir).segments); places = k ∷ [] })
    unfolding rewritten
    stored_one n after e p =
        ap (λ (z : List ℕ). overwritten bs (4 + 2 * n) (halves z)) (segment_there n after e p)
        ∙ (ap (λ (z : ℕ). overwritten bs (4 + 2 * z) (halves (image new (edited f (here k (laid d)))))) (number n e)
        ∙ sym (ap (rewritten bs new) one))
