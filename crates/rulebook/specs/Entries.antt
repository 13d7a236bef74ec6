-- Rule 6, of the entries of segments.
use Rattle.std.specs.Prelude.{◌≡◌, ℕ, ◌+◌, ◌*◌, ◌/◌, ◌<◌, ◌≤◌, ◌⊎◌, List, length, Some, None, Decides, Option, ◌≢◌, slice_index, slice_index_or}
use Rattle.std.specs.List.{ContainsAt, AllByRecursion}
use Rattle.codec.specs.Words.{word_at}
use Rattle.volume.specs.declared.entry.Status.TheVariants.{Tentative}
use Rattle.segment.specs.Chains.{segment_at}
use Rattle.directory.specs.declared.placed.Placed.{Placed}
use Rattle.directory.specs.declared.pending.Pending.{Pending}
use Rattle.directory.specs.Rules.{every, lawful_at, open_stands}

-- tentative, empty, permanent, permanent and protected
abbrev pub StatusWord : ℕ → Type 0
StatusWord w = (w ≡ 256) ⊎ ((w ≡ 512) ⊎ ((w ≡ 1024) ⊎ (w ≡ 33792)))

-- from a place on there are n entries of 14 + x bytes, each with one of the four statuses, and then the word 2,048
abbrev pub EntriesAt : ℕ → List ℕ → ℕ → ℕ → Type 0
EntriesAt x bytes at n =
    ((i : ℕ) → i < n → StatusWord (word_at bytes (at + i * (14 + x)))) × (word_at bytes (at + n * (14 + x)) ≡ 2048)

-- behind the five words of its header a segment has at most 1,012 div (14 + x) entries
abbrev pub LawfulSegment : ℕ → List ℕ → Type 0
LawfulSegment x bytes = (n : ℕ) × (n ≤ 1012 / (14 + x)) × EntriesAt x bytes 10 n

-- rule 6, first part: each segment of the chain ks is lawful
abbrev pub SegmentsLawful : ℕ → List ℕ → List ℕ → Type 0
SegmentsLawful x dir ks = AllByRecursion (λ k. LawfulSegment x (segment_at dir k)) ks

-- rule 6, second part, while no output is open: no entry is tentative
abbrev pub NoneTentative : List Placed → Type 0
NoneTentative ps = AllByRecursion (λ p. p.status ≢ Tentative) ps

-- while one is open: one entry is tentative, and no other
abbrev pub OneTentative : List Placed → Type 0
OneTentative ps =
    (i : ℕ) × (i < length ps) × ((d : Placed) → (slice_index_or ps i d).status ≡ Tentative)
    × ((j : ℕ) (d : Placed) → j < length ps → (slice_index_or ps j d).status ≡ Tentative → j ≡ i)

-- entry i of a segment and the next have these bytes
abbrev pub TwoStand : ℕ → List ℕ → ℕ → List ℕ → Type 0
TwoStand x bytes i others =
    (n : ℕ) × (n ≤ 1012 / (14 + x)) × EntriesAt x bytes 10 n
    × (i + 2 ≤ n) × ((a : ℕ) → a < 2 * (14 + x) → slice_index bytes (10 + i * (14 + x) + a) ≡ slice_index others a)

-- rule 6, second part: with an open output its entry and the next stand as they were written, in a segment of the chain ks
abbrev pub TentativeLawful : ℕ → List ℕ → List ℕ → Option Pending → List Placed → Type 0
TentativeLawful x dir ks None ps = NoneTentative ps
TentativeLawful x dir ks (Some p) ps =
    OneTentative ps × ContainsAt ks p.segment × TwoStand x (segment_at dir p.segment) p.index p.entries

abbrev pub RuleSixSegments : Type 0
RuleSixSegments = (x : ℕ) (dir ks : List ℕ) → Decides (every (lawful_at x dir) ks) (SegmentsLawful x dir ks)

abbrev pub RuleSixStatuses : Type 0
RuleSixStatuses =
    (x : ℕ) (dir ks : List ℕ) (output : Option Pending) (ps : List Placed)
    → Decides (open_stands x dir ks output ps) (TentativeLawful x dir ks output ps)
