-- The entries of a directory in chain order, each in its place.
use Rattle.std.specs.Prelude.{◌≡◌, ℕ, ◌+◌, ◌*◌, ◌<◌, ◌≤◌, true, List, [], ◌∷◌, ◌++◌, map, length, drop, is_some, Some, None, Option, slice_index}
use Rattle.std.specs.List.{AllByRecursion}
use Rattle.std.specs.Coded.{×_prop, Unit-prop, le_prop}
use mathlib.Core.Bool.{Bool-set}
use Rattle.volume.specs.declared.entry.Entry.{Entry}
use Rattle.segment.specs.Segments.{segment_entries}
use Rattle.segment.specs.Chains.{segment_at}
pub use Rattle.segment.specs.Chains.{InDirectory}
use Rattle.segment.specs.Directories.{entries_at}
use Rattle.directory.specs.declared.placed.Placed.{Placed}
use Rattle.directory.specs.declared.placed.Spot.{Spot}

-- an entry as index i of segment k, starting at a block
abbrev pub placed : ℕ → ℕ → ℕ → Entry → Placed
placed k i at e =
    record { status = e.status; name = e.name; length = e.length; date = e.date; segment = k; index = i; start = at }

abbrev pub spot : ℕ → ℕ → ℕ → Spot
spot p i at = record { place = p; index = i; start = at }

-- the blocks of some entries together
unfoldable pub blocks_of : List Entry → ℕ
blocks_of [] = 0
blocks_of (e ∷ es) = e.length + blocks_of es

-- entries of segment k from index i on, the first starting at a block
unfoldable pub placed_in : ℕ → ℕ → ℕ → List Entry → List Placed
placed_in k i at [] = []
placed_in k i at (e ∷ es) = placed k i at e ∷ placed_in k (i + 1) (at + e.length) es

-- the entries of some segments, of the first from index i on
unfoldable pub left_from : ℕ → List ℕ → ℕ → ℕ → List ℕ → List Placed
left_from x dir i at [] = []
left_from x dir i at (k ∷ ks) =
    placed_in k i at (drop i (entries_at x dir k)) ++ left_from x dir 0 (at + blocks_of (drop i (entries_at x dir k))) ks

-- the entries from a spot on the chain ks on
abbrev pub left : ℕ → List ℕ → List ℕ → Spot → List Placed
left x dir ks s = left_from x dir s.index s.start (drop s.place ks)

-- the same entries, each with its segment's place in the chain; p is the place of the first segment
unfoldable pub chained_from : ℕ → List ℕ → ℕ → ℕ → ℕ → List ℕ → List (ℕ × Placed)
chained_from x dir p i at [] = []
chained_from x dir p i at (k ∷ ks) =
    map (λ e. (p, e)) (placed_in k i at (drop i (entries_at x dir k)))
    ++ chained_from x dir (p + 1) 0 (at + blocks_of (drop i (entries_at x dir k))) ks

abbrev pub chained : ℕ → List ℕ → List ℕ → Spot → List (ℕ × Placed)
chained x dir ks s = chained_from x dir s.place s.index s.start (drop s.place ks)

-- segment k is in the directory and its entries are lawful
abbrev pub Readable : ℕ → List ℕ → ℕ → Type 0
Readable x dir k = (1 ≤ k) × (1024 * k ≤ length dir) × (is_some (segment_entries x (segment_at dir k)) ≡ true)

-- a spot from which the chain can be walked; starts stay far below 2 ^ 32
pub record OnWay (x : ℕ) (dir ks : List ℕ) (s : Spot) : Type 0 where
  pub all : AllByRecursion (Readable x dir) ks
  pub inside : s.place < length ks → s.index ≤ length (entries_at x dir (slice_index ks s.place))
  pub bound : s.start + 65535 * length (left x dir ks s) ≤ 200000000

-- each of these facts has one proof at most, so that it may be a ghost field
pub All-prop : (P : ℕ → Type 0) → ((k : ℕ) → IsProp (P k)) → (ks : List ℕ) → IsProp (AllByRecursion P ks)
All-prop P f [] = Unit-prop
All-prop P f (k ∷ ks) = ×_prop (f k) (All-prop P f ks)

pub InDirectory-prop : (dir : List ℕ) (k : ℕ) → IsProp (InDirectory dir k)
InDirectory-prop dir k = ×_prop le_prop le_prop

pub Readable-prop : (x : ℕ) (dir : List ℕ) (k : ℕ) → IsProp (Readable x dir k)
Readable-prop x dir k v w = λ j. (le_prop v.0 w.0 j, le_prop v.1 w.1 j, Bool-set (is_some (segment_entries x (segment_at dir k))) true v.2 w.2 j)

pub OnWay-prop : (x : ℕ) (dir ks : List ℕ) (s : Spot) → IsProp (OnWay x dir ks s)
OnWay-prop x dir ks s v w =
    λ j. record {
      all = All-prop (Readable x dir) (Readable-prop x dir) ks v.all w.all j;
      inside = λ h. le_prop (v.inside h) (w.inside h) j;
      bound = le_prop v.bound w.bound j;
    }

-- one step: the first of what is left, and the spot behind it
abbrev pub Steps : ℕ → List ℕ → List ℕ → Spot → Option (Placed × Spot) → Type 0
Steps x dir ks s None = left x dir ks s ≡ []
Steps x dir ks s (Some (p, n)) = (left x dir ks s ≡ p ∷ left x dir ks n) × OnWay x dir ks n × (p.start ≤ 200000000)

-- the same step, where each entry has its segment's place in the chain: the spot behind an entry is in its segment
abbrev pub ChainSteps : ℕ → List ℕ → List ℕ → Spot → Option (Placed × Spot) → Type 0
ChainSteps x dir ks s None = chained x dir ks s ≡ []
ChainSteps x dir ks s (Some (p, n)) = chained x dir ks s ≡ (n.place, p) ∷ chained x dir ks n
